-- What the compared cells show.
use Rattle.std.proofs.Common.{◌≡◌, Bool, true, false, ℕ, zero, suc, ◌+◌, ◌*◌, ◌/◌, ◌^◌, ◌<◌, ◌≤◌, ◌⊎◌, inl, inr, List, length, refl, sym, ◌∙◌, ap, subst, arith}
use Rattle.std.specs.Prelude.{slice_index}
use Rattle.std.proofs.lemmas.Bool.{cases_eq, cases_lt}
use Rattle.nor_cells.specs.Beside.{IsHeld, IsBesideCell}
use Rattle.nor_cells.specs.Laws.{Agrees, NoSmallerChip, IsErasedBetween, NoWiderErase}
use Rattle.nor_cells.specs.Wrap.{IsFirstUnlike}

-- up to an address each byte is the one so far on, or there is a first that isn't
first_or : (content : List ℕ) (far n : ℕ) → ((b : ℕ) → b < n → slice_index content b ≡ slice_index content (b + far))
    ⊎ ((a : ℕ) × (a < n) × (slice_index content a ≡ slice_index content (a + far) → ⊥)
    × ((b : ℕ) → b < a → slice_index content b ≡ slice_index content (b + far)))
first_or content far zero = inl (λ b lt. absurd (omega (arith, lt)))
first_or content far (suc n) = elim (first_or content far n) [
  | inr found ↦ inr (found.0, omega (arith, found.1), found.2, found.3)
  | inl all ↦ elim (cases_eq (slice_index content n) (slice_index content (n + far))) [
    | inl same ↦ inl (λ b lt. elim (cases_lt b n) [
      | inl below ↦ all b below
      | inr past ↦ let is : b ≡ n = omega (arith, lt, past) in
          subst (λ (k : ℕ). slice_index content k ≡ slice_index content (k + far)) (sym is) same
    ])
    | inr other ↦ inr (n, omega arith, other, all)
  ]
]

pub no_smaller_chip : NoSmallerChip
no_smaller_chip content real k low wraps agrees = elim (first_or content (2 ^ k) (length content)) [
  | inl all ↦ (λ b inside. all b (omega (arith, inside)))
  | inr found ↦ (λ b inside.
      let far = 2 ^ k in
      elim (cases_lt (found.0 + far) (length content)) [
        | inl within ↦
            let first : IsFirstUnlike content far found.0 = record { within = within; unlike = found.2; alike = found.3 } in
            let near : real found.0 ≡ slice_index content found.0 =
            agrees found.0 (omega (arith, within)) (found.0, refl, (k, low, inl first)) in
            let there : real (found.0 + far) ≡ slice_index content (found.0 + far) =
            agrees (found.0 + far) within (found.0 + far, refl, (k, low, inr (found.0, first, refl))) in
            absurd (found.2 (sym near ∙ wraps found.0 ∙ there))
        | inr past ↦ found.3 b (omega (arith, inside, past))
      ])
]

-- the last touched cell below one, from a touched one on
last_below : (touched : ℕ → Bool) (t c : ℕ) → touched t ≡ true → t < c
    → (e : ℕ) × (t ≤ e) × (e < c) × (touched e ≡ true) × ((d : ℕ) → e < d → d < c → touched d ≡ true → ⊥)
last_below touched t zero is lt = absurd (omega (arith, lt))
last_below touched t (suc c) is lt = last_by touched t c is lt (touched c) refl (λ below. last_below touched t c is below)
  where
    last_by : (touched : ℕ → Bool) (t c : ℕ) → touched t ≡ true → t < suc c → (b : Bool) → touched c ≡ b
        → (t < c → (e : ℕ) × (t ≤ e) × (e < c) × (touched e ≡ true) × ((d : ℕ) → e < d → d < c → touched d ≡ true → ⊥))
        → (e : ℕ) × (t ≤ e) × (e < suc c) × (touched e ≡ true) × ((d : ℕ) → e < d → d < suc c → touched d ≡ true → ⊥)
    last_by touched t c is lt true here more = (c, omega (arith, lt), omega arith, here, (λ d past before _. omega (arith, past, before)))
    last_by touched t c is lt false here more = elim (cases_lt t c) [
      | inl below ↦ let e = more below in (
        e.0,
        e.1,
        omega (arith, e.2),
        e.3,
        (λ d past before set. elim (cases_lt d c) [
          | inl less ↦ e.4 d past less set
          | inr top ↦ let same : d ≡ c = omega (arith, before, top) in
              let clash : true ≡ false = sym set ∙ ap touched same ∙ here in cc
        ]),
      )
      | inr past ↦ let same : t ≡ c = omega (arith, lt, past) in absurd (let clash : true ≡ false = sym is ∙ ap touched same ∙ here in cc)
    ]

-- the first touched cell above one, up to a touched one
first_above : (touched : ℕ → Bool) (n c t : ℕ) → touched t ≡ true → c < t → t ≤ c + n
    → (e : ℕ) × (c < e) × (e ≤ t) × (touched e ≡ true) × ((d : ℕ) → c < d → d < e → touched d ≡ true → ⊥)
first_above touched zero c t is lt near = absurd (omega (arith, lt, near))
first_above touched (suc n) c t is lt near =
    first_by touched c t is lt (touched (c + 1)) refl (λ below. first_above touched n (c + 1) t is below (omega (arith, near)))
  where
    first_by : (touched : ℕ → Bool) (c t : ℕ) → touched t ≡ true → c < t → (b : Bool) → touched (c + 1) ≡ b
        → (c + 1 < t → (e : ℕ) × (c + 1 < e) × (e ≤ t) × (touched e ≡ true) × ((d : ℕ) → c + 1 < d → d < e → touched d ≡ true → ⊥))
        → (e : ℕ) × (c < e) × (e ≤ t) × (touched e ≡ true) × ((d : ℕ) → c < d → d < e → touched d ≡ true → ⊥)
    first_by touched c t is lt true here more = (c + 1, omega arith, omega (arith, lt), here, (λ d past before _. omega (arith, past, before)))
    first_by touched c t is lt false here more = elim (cases_lt (c + 1) t) [
      | inl below ↦ let e = more below in (
        e.0,
        omega (arith, e.1),
        e.2,
        e.3,
        (λ d past before set. elim (cases_lt (c + 1) d) [
          | inl less ↦ e.4 d less before set
          | inr low ↦ let same : d ≡ c + 1 = omega (arith, past, low) in
              let clash : true ≡ false = sym set ∙ ap touched same ∙ here in cc
        ]),
      )
      | inr past ↦ let same : t ≡ c + 1 = omega (arith, lt, past) in absurd (let clash : true ≡ false = sym is ∙ ap touched same ∙ here in cc)
    ]

-- what was erased beside touched cells
module _ (content : List ℕ) (touched : ℕ → Bool) (real : ℕ → ℕ) (low high t : ℕ) (is : touched t ≡ true) (inside : 256 * t < length content) (from : low ≤ t)
    (to : t < high) (erased : IsErasedBetween touched content real low high) (agrees : Agrees (λ a. IsBesideCell (λ c. touched c ≡ true) content (a / 256)) content real) where
  -- a cell beside them holds nothing
  bare : (c : ℕ) → low ≤ c → c < high → IsBesideCell (λ c. touched c ≡ true) content c → ⊥
  bare c past before beside =
      let h = beside.held in
      let gone : real h.at ≡ 0xFF = erased h.at h.within (omega (arith, past, h.there)) (omega (arith, before, h.there))
      (λ set. beside.free (subst (λ k. touched k ≡ true) h.there set)) in
      let there : real h.at ≡ slice_index content h.at = agrees h.at h.within
      (subst (λ (k : ℕ). IsBesideCell (λ c. touched c ≡ true) content k) (sym h.there) beside) in
      h.held (sym there ∙ gone)

  above : (n c : ℕ) → t < c → c ≤ t + n → c < high → (touched c ≡ true → ⊥) → IsHeld content c → ⊥
  above zero c past near before free held = omega (arith, past, near)
  above (suc n) c past near before free held =
      let e = last_below touched t c is past in
      bare c (omega (arith, from, past)) before (record {
        held = held;
        free = free;
        to = e.0;
        within = omega (arith, e.2, held.within, held.there);
        touched = e.3;
        gap = inr (record {
          order = e.2;
          bare = λ d over under. (
            above n d (omega (arith, e.1, over)) (omega (arith, under, near)) (omega (arith, under, before)) (e.4 d over under),
            e.4 d over under,
          );
        });
      })

  below : (n c : ℕ) → c < t → t ≤ c + n → low ≤ c → (touched c ≡ true → ⊥) → IsHeld content c → ⊥
  below zero c before near past free held = omega (arith, before, near)
  below (suc n) c before near past free held =
      let e = first_above touched (suc n) c t is before near in
      bare c past (omega (arith, before, to)) (record {
        held = held;
        free = free;
        to = e.0;
        within = omega (arith, e.2, inside);
        touched = e.3;
        gap = inl (record {
          order = e.1;
          bare = λ d over under. (
            below n d (omega (arith, under, e.2)) (omega (arith, over, near)) (omega (arith, past, over)) (e.4 d over under),
            e.4 d over under,
          );
        });
      })

  pub nothing_lost : (a : ℕ) → a < length content → low ≤ a / 256 → a / 256 < high → (touched (a / 256) ≡ true → ⊥) → slice_index content a ≡ 0xFF
  nothing_lost a within past before free = elim (cases_eq (slice_index content a) 0xFF) [
    | inl blank ↦ blank
    | inr held ↦
        let h : IsHeld content (a / 256) = record { at = a; within = within; there = refl; held = held } in
        absurd (elim (cases_lt t (a / 256)) [
          | inl up ↦ above (a / 256) (a / 256) up (omega arith) before free h
          | inr not_up ↦ elim (cases_lt (a / 256) t) [
            | inl down ↦ below t (a / 256) down (omega arith) past free h
            | inr not_down ↦ let same : t ≡ a / 256 = omega (arith, not_up, not_down) in free (ap touched (sym same) ∙ is)
          ]
        ])
  ]

pub no_wider_erase : NoWiderErase
no_wider_erase content touched real low high t is inside from to erased agrees = nothing_lost content touched real low high t is inside from to erased agrees
