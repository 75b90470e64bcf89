-- The programs of a page cover what differs, over bytes that may be programmed, each within the page.
use Rattle.std.proofs.Common.{◌≡◌, ◌⊎◌, ℕ, zero, suc, ◌+◌, ◌%◌, ◌<◌, ◌≤◌, ◌==◌, Bool, true, false, cond, not, ◌&&◌, if◌then◌else◌, List, [], ◌∷◌, ◌++◌, length, refl, sym, ◌∙◌, ap, subst, arith, inl, inr, eqb-true, eq-eqb}
use Rattle.std.specs.Prelude.{bit_and, filter, flat_map}
use Rattle.std.specs.Int.Bits.{and_self}
use Rattle.std.specs.List.{slice_index, slice_range, range_with_len, slice_split, onto_first}
use Rattle.std.proofs.lemmas.Bool.{cases_lt, cases_Bool, both_ways, not-false, not-true}
use Rattle.nor_base.specs.Parameters.{Parameters}
use Rattle.nor_base.specs.Effect.{may_program}
use Rattle.nor_base.specs.Need.{differs}
use Rattle.nor_base.specs.Programs.{Program, program_end, target_bytes, last_of, span, is_closed, page_programs}
use Rattle.nor_plan_laws.proofs.Units.Ranges.{length-range}
use Rattle.nor_plan_laws.proofs.Task.Made.{IsPut, ArePut}

-- where the byte differs a program may do it
abbrev pub IsClear : Parameters → List ℕ → List ℕ → ℕ → Type 0
IsClear m level want x = differs level want x ≡ true → may_program m (slice_index level x) (slice_index want x) ≡ true

abbrev may_by : Bool → ℕ → ℕ → Bool
may_by erased_only old byte = if erased_only then old == 255 else bit_and old byte == byte

open_by : (b : Bool) (old byte : ℕ) → b && not (old == 255) ≡ false → (not (old == byte) ≡ true → may_by b old byte ≡ true) → may_by b old byte ≡ true
open_by true old byte h clear = not-false (old == 255) h
open_by false old byte h clear = elim (cases_Bool (old == byte)) [
  | inl same ↦
      let equal : old ≡ byte = eqb-true old byte same in
      let self : bit_and old byte ≡ byte = ap (λ n. bit_and n byte) equal ∙ and_self byte in
      rw self same_number
  | inr apart ↦ clear (ap not apart)
]
  where
    same_number : byte == byte ≡ true
    same_number = eq-eqb byte byte refl

closed_by : (b : Bool) (old byte : ℕ) → b && not (old == 255) ≡ true → (not (old == byte) ≡ true → may_by b old byte ≡ true) → old ≡ byte
closed_by true old byte h clear = elim (cases_Bool (old == byte)) [
  | inl same ↦ eqb-true old byte same
  | inr apart ↦ absurd (both_ways (old == 255) (not-true (old == 255) h) (clear (ap not apart)))
]
closed_by false old byte h clear = cc

is_same : (level want : List ℕ) (x : ℕ) → differs level want x ≡ false → slice_index level x ≡ slice_index want x
is_same level want x h = eqb-true (slice_index level x) (slice_index want x) (not-false (slice_index level x == slice_index want x) h)

-- from one address up to another all is in one page of the chip
pub record IsInOne (page start high : ℕ) : Type 0 where
  pub page_start : ℕ
  pub whole : page_start % page ≡ 0
  pub from : page_start ≤ start
  pub upto : high ≤ page_start + page

-- programs of a stretch are those of one that begins earlier, where nothing differs before them
pub lower : (m : Parameters) (page : ℕ) (level want : List ℕ) (low a high : ℕ) → low ≤ a → ((x : ℕ) → low ≤ x → x < a → slice_index level x ≡ slice_index want x)
    → (ps : List Program) → ArePut m page level want a high ps → ArePut m page level want low high ps
lower m page level want low a high rises same [] put = λ x from upto. elim (cases_lt x a) [ inl first ↦ same x from first | inr later ↦ put x later upto ]
lower m page level want low a high rises same (p ∷ ps) put = (
  record {
    from = omega (arith, put.0.from, rises);
    some = put.0.some;
    upto = put.0.upto;
    same = λ x from upto. elim (cases_lt x a) [ inl first ↦ same x from first | inr later ↦ put.0.same x later upto ];
    in_page = put.0.in_page;
    puts = put.0.puts;
    may = put.0.may;
  },
  put.1,
)

-- the first part of what is left of a page, whose bytes that differ are to go into one program, and the programs after it
record HeadOpen (m : Parameters) (page : ℕ) (level want : List ℕ) (a high : ℕ) (part : List ℕ) (rest : List Program) : Type 0 where
  first : ℕ
  more : List ℕ
  is : filter (differs level want) part ≡ first ∷ more
  from : a ≤ first
  rises : first ≤ last_of first more
  upto : last_of first more + 1 ≤ high
  opened : (x : ℕ) → a ≤ x → x ≤ last_of first more → is_closed m level x ≡ false
  same : (x : ℕ) → a ≤ x → x < first → slice_index level x ≡ slice_index want x
  put : ArePut m page level want (last_of first more + 1) high rest

abbrev Head : Parameters → ℕ → List ℕ → List ℕ → ℕ → ℕ → List ℕ → List Program → Type 0
Head m page level want a high part rest =
    ((filter (differs level want) part ≡ []) × ArePut m page level want a high rest) ⊎ HeadOpen m page level want a high part rest

closes : (m : Parameters) (page : ℕ) (level want : List ℕ) (a high start : ℕ) (part : List ℕ) (rest : List Program) → start ≤ a → high ≤ length want
    → IsInOne page start high → ((x : ℕ) → a ≤ x → x < high → IsClear m level want x) → Head m page level want a high part rest
    → ArePut m page level want a high (span want (filter (differs level want) part) ++ rest)
closes m page level want a high start part rest later inside one clear (inl h) = rw h.0 h.1
closes m page level want a high start part rest later inside one clear (inr h) = rw h.is (put, subst (λ low. ArePut m page level want low high rest) (sym ends) h.put)
  where
    ends : h.first + length (slice_range want h.first (last_of h.first h.more + 1)) ≡ last_of h.first h.more + 1
    ends = omega (arith, length-range want h.first (last_of h.first h.more + 1) (omega (arith, h.rises)) (omega (arith, h.upto, inside)), h.rises)

    put : IsPut m page level want a high (target_bytes want h.first (last_of h.first h.more + 1))
    put = record {
      from = h.from;
      some = omega (arith, ends, h.rises);
      upto = omega (arith, ends, h.upto);
      same = h.same;
      in_page = record { page_start = one.page_start; whole = one.whole; from = omega (arith, one.from, later, h.from); upto = omega (arith, ends, h.upto, one.upto) };
      puts = ap (slice_range want h.first) (sym ends);
      may = λ x from upto.
          open_by m.erased_only (slice_index level x) (slice_index want x) (h.opened x (omega (arith, h.from, from)) (omega (arith, ends, upto)))
          (clear x (omega (arith, h.from, from)) (omega (arith, ends, upto, h.upto)));
    }

-- one more open byte before it
prepends_by : (m : Parameters) (page : ℕ) (level want : List ℕ) (a high : ℕ) (part : List ℕ) (rest : List Program) (b : Bool) → a + 1 ≤ high
    → is_closed m level a ≡ false → differs level want a ≡ b → Head m page level want (a + 1) high part rest
    → ((cond b (a ∷ filter (differs level want) part) (filter (differs level want) part) ≡ []) × ArePut m page level want a high rest)
    ⊎ ((first : ℕ) × (more : List ℕ) × (cond b (a ∷ filter (differs level want) part) (filter (differs level want) part) ≡ first ∷ more) × (a ≤ first)
    × (first ≤ last_of first more) × (last_of first more + 1 ≤ high) × ((x : ℕ) → a ≤ x → x ≤ last_of first more → is_closed m level x ≡ false)
    × ((x : ℕ) → a ≤ x → x < first → slice_index level x ≡ slice_index want x) × ArePut m page level want (last_of first more + 1) high rest)
prepends_by m page level want a high part rest true inside opened is (inl h) =
    inr (
      a,
      [],
      ap (λ xs. a ∷ xs) h.0,
      omega arith,
      omega arith,
      inside,
      (λ x from upto. let here : a ≡ x = omega arith in subst (λ y. is_closed m level y ≡ false) here opened),
      (λ x from upto. absurd (omega arith)),
      h.1,
    )
prepends_by m page level want a high part rest true inside opened is (inr h) =
    inr (
      a,
      h.first ∷ h.more,
      ap (λ xs. a ∷ xs) h.is,
      omega arith,
      omega (arith, h.from, h.rises),
      h.upto,
      (λ x from upto. elim (cases_lt a x) [
        | inl past ↦ h.opened x (omega arith) upto
        | inr here' ↦ let here : a ≡ x = omega arith in subst (λ y. is_closed m level y ≡ false) here opened
      ]),
      (λ x from upto. absurd (omega arith)),
      h.put,
    )
prepends_by m page level want a high part rest false inside opened is (inl h) =
    inl (
      h.0,
      lower m page level want a (a + 1) high (omega arith) (λ x from upto. let here : a ≡ x = omega arith in
          subst (λ y. slice_index level y ≡ slice_index want y) here (is_same level want a is)) rest h.1,
    )
prepends_by m page level want a high part rest false inside opened is (inr h) =
    inr (
      h.first,
      h.more,
      h.is,
      omega (arith, h.from),
      h.rises,
      h.upto,
      (λ x from upto. elim (cases_lt a x) [
        | inl past ↦ h.opened x (omega arith) upto
        | inr here' ↦ let here : a ≡ x = omega arith in subst (λ y. is_closed m level y ≡ false) here opened
      ]),
      (λ x from upto. elim (cases_lt a x) [
        | inl past ↦ h.same x (omega arith) upto
        | inr here' ↦ let here : a ≡ x = omega arith in subst (λ y. slice_index level y ≡ slice_index want y) here (is_same level want a is)
      ]),
      h.put,
    )

prepends : (m : Parameters) (page : ℕ) (level want : List ℕ) (a high : ℕ) (part : List ℕ) (rest : List Program) → a + 1 ≤ high
    → is_closed m level a ≡ false → Head m page level want (a + 1) high part rest → Head m page level want a high (a ∷ part) rest
prepends m page level want a high part rest inside opened h =
    elim (prepends_by m page level want a high part rest (differs level want a) inside opened refl h) [
      | inl none ↦ inl none
      | inr some ↦ inr (record {
        first = some.0;
        more = some.1;
        is = some.2;
        from = some.3;
        rises = some.4;
        upto = some.5;
        opened = some.6;
        same = some.7;
        put = some.8;
      })
    ]

abbrev programs_of : List ℕ → List ℕ → List (List ℕ) → List Program
programs_of level want parts = flat_map (λ part. span want (filter (differs level want) part)) parts

abbrev Parts : Parameters → ℕ → List ℕ → List ℕ → ℕ → ℕ → List (List ℕ) → Type 0
Parts m page level want a high [] = ⊥
Parts m page level want a high (part ∷ parts) = Head m page level want a high part (programs_of level want parts)

all_close : (m : Parameters) (page : ℕ) (level want : List ℕ) (a high start : ℕ) (parts : List (List ℕ)) → start ≤ a → high ≤ length want → IsInOne page start high
    → ((x : ℕ) → a ≤ x → x < high → IsClear m level want x) → Parts m page level want a high parts → ArePut m page level want a high (programs_of level want parts)
all_close m page level want a high start [] later inside one clear h = absurd h
all_close m page level want a high start (part ∷ parts) later inside one clear h =
    closes m page level want a high start part (programs_of level want parts) later inside one clear h

split_step : (m : Parameters) (page : ℕ) (level want : List ℕ) (a high start : ℕ) (parts : List (List ℕ)) (b : Bool) → start ≤ a → a + 1 ≤ high → high ≤ length want
    → IsInOne page start high → ((x : ℕ) → a ≤ x → x < high → IsClear m level want x) → is_closed m level a ≡ b → Parts m page level want (a + 1) high parts
    → Parts m page level want a high (cond b ([] ∷ parts) (onto_first a parts))
split_step m page level want a high start parts true later fits inside one clear is h =
    inl (
      refl,
      lower m page level want a (a + 1) high (omega arith) (λ x from upto. let here : a ≡ x = omega arith in
          subst (λ y. slice_index level y ≡ slice_index want y) here
          (closed_by m.erased_only (slice_index level a) (slice_index want a) is (clear a (omega arith) (omega arith)))) (programs_of level want parts)
          (all_close m page level want (a + 1) high start parts (omega arith) inside one (λ x from upto. clear x (omega arith) upto) h),
    )
split_step m page level want a high start [] false later fits inside one clear is h = absurd h
split_step m page level want a high start (part ∷ parts) false later fits inside one clear is h =
    prepends m page level want a high part (programs_of level want parts) fits is h

split_parts : (m : Parameters) (page : ℕ) (level want : List ℕ) (high start n a : ℕ) → start ≤ a → a + n ≡ high → high ≤ length want → IsInOne page start high
    → ((x : ℕ) → a ≤ x → x < high → IsClear m level want x) → Parts m page level want a high (slice_split (is_closed m level) (range_with_len a n))
split_parts m page level want high start zero a later sum inside one clear = inl (refl, λ x from upto. absurd (omega arith))
split_parts m page level want high start (suc n) a later sum inside one clear =
    split_step m page level want a high start (slice_split (is_closed m level) (range_with_len (a + 1) n)) (is_closed m level a) later (omega arith) inside one clear refl
    (split_parts m page level want high start n (a + 1) (omega arith) (omega arith) inside one (λ x from upto. clear x (omega arith) upto))

-- the programs of a page
pub page_sound : (m : Parameters) (page : ℕ) (level want : List ℕ) (start : ℕ) → start + m.page ≤ length want → IsInOne page start (start + m.page)
    → ((x : ℕ) → start ≤ x → x < start + m.page → IsClear m level want x)
    → ArePut m page level want start (start + m.page) (page_programs m level want start)
unfolding page_programs
page_sound m page level want start inside one clear =
    all_close m page level want start (start + m.page) start (slice_split (is_closed m level) (range_with_len start m.page)) (omega arith) inside one clear
    (split_parts m page level want (start + m.page) start m.page start (omega arith) refl inside one clear)

-- programs of two stretches side by side
pub put_then : (m : Parameters) (page : ℕ) (level want : List ℕ) (middle high : ℕ) → middle ≤ high → (ps qs : List Program) (low : ℕ)
    → ArePut m page level want low middle ps → ArePut m page level want middle high qs → low ≤ middle → ArePut m page level want low high (ps ++ qs)
put_then m page level want middle high rises [] qs low first second fits = lower m page level want low middle high fits first qs second
put_then m page level want middle high rises (p ∷ ps) qs low first second fits = (
  record {
    from = first.0.from;
    some = first.0.some;
    upto = omega (arith, first.0.upto);
    same = first.0.same;
    in_page = first.0.in_page;
    puts = first.0.puts;
    may = first.0.may;
  },
  put_then m page level want middle high rises ps qs (program_end p) first.1 second first.0.upto,
)
