-- What a run that programs nothing in a page leaves at an address there: what was there, or FFh where it was erased.
use Rattle.std.proofs.Common.{◌≡◌, ◌≢◌, ◌⊎◌, ℕ, ◌+◌, ◌%◌, ◌<◌, ◌≤◌, ◌==◌, nat_le, nat_lt, Bool, true, false, ◌&&◌, ◌||◌, List, [], ◌∷◌, ◌++◌, length, Option, Some, None, Ok, refl, sym, ◌∙◌, ap, arith, inl, inr, eq-eqb}
use Rattle.std.specs.List.{list_any, slice_index}
use Rattle.std.specs.Option.{option_map_or}
use Rattle.std.proofs.Math.Nat.{mod-lt}
use Rattle.std.proofs.Math.Bool.{and-false, or-true}
use Rattle.std.proofs.lemmas.Bool.{cases_eq, cases_lt, lt-leb, le-ltb}
use Rattle.nor_base.specs.Array.{IsOutside}
use Rattle.nor_base.specs.declared.instruction.What.{What}
use Rattle.nor_base.specs.declared.instruction.What.TheVariants as what
use Rattle.nor_base.specs.declared.step.Step.{Step}
use Rattle.nor_base.specs.Parameters.{Parameters, block_size}
use Rattle.nor_base.specs.Decoding.{Instruction, decode}
use Rattle.nor_base.specs.Chip.{Setting, Chip}
use Rattle.nor_base.specs.Effect.{page_start, is_program, after, effect, effect_if, effect_of}
use Rattle.nor_base.specs.Run.{run}
use Rattle.nor_base.specs.Events.{Event, events_from, erases_address}
use Rattle.nor_laws.proofs.EffectLaws.{taken, keeps_size, program_keeps_others, erase_keeps_others, erase_fills}
use Rattle.nor_plan_laws.proofs.Units.Ranges.{aligned_le}
use Rattle.nor_plan_laws.proofs.Erased.Erasing.{floor_aligned}
use Rattle.nor_plan_laws.proofs.Fewest.Relates.{run_related}

-- an instruction programs the page that begins there
abbrev pub programs_page : ℕ → ℕ → Instruction → Bool
programs_page page first i = is_program i.what && (page_start page i.address == first)

abbrev pub on_page : ℕ → ℕ → Event → Bool
on_page page first e = option_map_or (programs_page page first) e.seen false

abbrev pub on_address : Parameters → ℕ → Event → Bool
on_address m a e = option_map_or (λ i. erases_address m a i i.what) e.seen false

-- the chip's byte there after some events: a program was done in the page, or the byte stayed and nothing erased it, or it is FFh
abbrev pub IsLeft : Setting → ℕ → Chip → List Event → Chip → Type 0
IsLeft s x c seen d =
    (list_any (on_page s.page (page_start s.page x)) seen ≡ true)
    ⊎ (((slice_index d.array x ≡ slice_index c.array x) × (list_any (on_address s.meaning x) seen ≡ false)) ⊎ (slice_index d.array x ≡ 255))

abbrev pub Leaves : Setting → ℕ → Chip → List Event → Chip → Type 0
Leaves s x c seen d = x < length c.array → (x < length d.array) × IsLeft s x c seen d

-- two pages are apart, or one
apart : (page a x : ℕ) → 0 < page → page_start page a ≢ page_start page x → IsOutside (page_start page a) (page_start page a + page) x
apart page a x some other =
    let rest : x % page < page = mod-lt x some in
    elim (cases_lt x (page_start page a)) [
      | inl before ↦ inl before
      | inr from ↦ elim (cases_lt x (page_start page a + page)) [
        | inr past ↦ inr past
        | inl upto ↦
            let low : page_start page x ≤ page_start page a = aligned_le (page_start page x) (page_start page a) page some (floor_aligned x page) (floor_aligned a page) (omega arith) in
            let high : page_start page a ≤ page_start page x = aligned_le (page_start page a) (page_start page x) page some (floor_aligned a page) (floor_aligned x page) (omega arith) in
            absurd (other (omega (arith, low, high)))
      ]
    ]

any_join : (test : Event → Bool) (xs ys : List Event) → list_any test (xs ++ ys) ≡ list_any test xs || list_any test ys
any_join test [] ys = refl
any_join test (e ∷ xs) ys = ap (λ b. test e || b) (any_join test xs ys) ∙ sym (or_assoc (test e) (list_any test xs) (list_any test ys))
  where
    or_assoc : (a b c : Bool) → (a || b) || c ≡ a || (b || c)
    or_assoc true b c = refl
    or_assoc false b c = refl

module _ (s : Setting) (x : ℕ) (some : 0 < s.page) where
  -- one instruction
  abbrev Has : Chip → Instruction → What → Chip → Type 0
  Has c i w d =
      (is_program w && (page_start s.page i.address == page_start s.page x) ≡ true)
      ⊎ (((slice_index d.array x ≡ slice_index c.array x) × (erases_address s.meaning x i w ≡ false)) ⊎ (slice_index d.array x ≡ 255))

  programs_has : (c d : Chip) (i : Instruction) (bytes : List ℕ) (w : What) → i.what ≡ w → is_program w ≡ true → erases_address s.meaning x i w ≡ false
      → effect_of s c i ≡ Ok (d, bytes) → Has c i w d
  programs_has c d i bytes w is program none h = elim (cases_eq (page_start s.page i.address) (page_start s.page x)) [
    | inl same ↦ inl (rw (program, eq-eqb (page_start s.page i.address) (page_start s.page x) same) refl)
    | inr other ↦ inr (inl (program_keeps_others s c d i bytes x some (ap is_program is ∙ program) h (apart s.page i.address x some other), none))
  ]

  erase_has : (c d : Chip) (i : Instruction) (bytes : List ℕ) (kind : ℕ) → i.what ≡ what.Erase kind → x < length c.array
      → effect_of s c i ≡ Ok (d, bytes) → Has c i (what.Erase kind) d
  erase_has c d i bytes kind is inside h = elim (cases_lt x i.address) [
    | inl before ↦ inr (inl (
      erase_keeps_others s c d i kind bytes x is h (inl before),
      ap (λ b. b && nat_lt x (i.address + block_size s.meaning kind)) (lt-leb i.address x before),
    ))
    | inr from ↦ elim (cases_lt x (i.address + block_size s.meaning kind)) [
      | inl upto ↦ inr (inr (erase_fills s c d i kind bytes x is h inside from upto))
      | inr past ↦ inr (inl (
        erase_keeps_others s c d i kind bytes x is h (inr past),
        ap (λ b. nat_le i.address x && b) (le-ltb x (i.address + block_size s.meaning kind) past) ∙ and-false (nat_le i.address x),
      ))
    ]
  ]

  quiet_has : (c d : Chip) (i : Instruction) (bytes : List ℕ) (w : What) → i.what ≡ w → (after s c i w).array ≡ c.array → erases_address s.meaning x i w ≡ false
      → effect_of s c i ≡ Ok (d, bytes) → Has c i w d
  quiet_has c d i bytes w is same none h =
      let chip : d ≡ after s c i w = (taken s c i d bytes h).chip ∙ ap (after s c i) is in
      inr (inl (ap (λ (e : Chip). slice_index e.array x) chip ∙ ap (λ a. slice_index a x) same, none))

  taken_has : (c d : Chip) (i : Instruction) (bytes : List ℕ) (w : What) → i.what ≡ w → x < length c.array → effect_of s c i ≡ Ok (d, bytes) → Has c i w d
  unfolding after
  taken_has c d i bytes (what.Erase kind) is inside h = erase_has c d i bytes kind is inside h
  taken_has c d i bytes what.Program is inside h = programs_has c d i bytes what.Program is refl refl h
  taken_has c d i bytes what.QuadProgram is inside h = programs_has c d i bytes what.QuadProgram is refl refl h
  taken_has c d i bytes what.Enable is inside h = quiet_has c d i bytes what.Enable is refl refl h
  taken_has c d i bytes what.Disable is inside h = quiet_has c d i bytes what.Disable is refl refl h
  taken_has c d i bytes what.Status is inside h = quiet_has c d i bytes what.Status is refl refl h
  taken_has c d i bytes what.Enter is inside h = quiet_has c d i bytes what.Enter is refl refl h
  taken_has c d i bytes what.Leave is inside h = quiet_has c d i bytes what.Leave is refl refl h
  taken_has c d i bytes what.Read is inside h = quiet_has c d i bytes what.Read is refl refl h
  taken_has c d i bytes what.QuadRead is inside h = quiet_has c d i bytes what.QuadRead is refl refl h
  taken_has c d i bytes what.Broken is inside h = quiet_has c d i bytes what.Broken is refl refl h

  -- one transaction
  abbrev HasSeen : Chip → Option Instruction → Chip → Type 0
  HasSeen c seen d =
      (option_map_or (programs_page s.page (page_start s.page x)) seen false ≡ true)
      ⊎ (((slice_index d.array x ≡ slice_index c.array x) × (option_map_or (λ i. erases_address s.meaning x i i.what) seen false ≡ false)) ⊎ (slice_index d.array x ≡ 255))

  seen_has : (c d : Chip) (seen : Option Instruction) (bytes : List ℕ) → x < length c.array → effect_if s c seen ≡ Ok (d, bytes) → HasSeen c seen d
  seen_has c d None bytes inside h = cc
  seen_has c d (Some i) bytes inside h = taken_has c d i bytes i.what refl inside h

  effect_has : (c d : Chip) (clocks bytes : List ℕ) → x < length c.array → effect s c clocks ≡ Ok (d, bytes) → HasSeen c (decode s.meaning c.mode4 clocks) d
  unfolding effect
  effect_has c d clocks bytes inside h = seen_has c d (decode s.meaning c.mode4 clocks) bytes inside h

  one_leaves : (n : ℕ) (c d : Chip) (clocks bytes : List ℕ) → effect s c clocks ≡ Ok (d, bytes)
      → Leaves s x c (record { step = n; seen = decode s.meaning c.mode4 clocks; chip = d } ∷ []) d
  one_leaves n c d clocks bytes h inside =
      let size = keeps_size s c d clocks bytes h in (
        omega (arith, size, inside),
        elim (effect_has c d clocks bytes inside h) [
          | inl programs ↦ inl (rw programs refl)
          | inr other ↦ elim other [ inl stays ↦ inr (inl (stays.0, rw stays.1 refl)) | inr blank ↦ inr (inr blank) ]
        ],
      )

  none_leaves : (c : Chip) → Leaves s x c [] c
  none_leaves c inside = (inside, inr (inl (refl, refl)))

  any_first : (test : Event → Bool) (xs ys : List Event) → list_any test xs ≡ true → list_any test (xs ++ ys) ≡ true
  any_first test xs ys h = any_join test xs ys ∙ ap (λ b. b || list_any test ys) h

  any_second : (test : Event → Bool) (xs ys : List Event) → list_any test ys ≡ true → list_any test (xs ++ ys) ≡ true
  any_second test xs ys h = any_join test xs ys ∙ ap (λ b. list_any test xs || b) h ∙ or-true (list_any test xs)

  any_neither : (test : Event → Bool) (xs ys : List Event) → list_any test xs ≡ false → list_any test ys ≡ false → list_any test (xs ++ ys) ≡ false
  any_neither test xs ys h g = any_join test xs ys ∙ ap (λ b. b || list_any test ys) h ∙ g

  left_joins : (c d e : Chip) (xs ys : List Event) → IsLeft s x c xs d → IsLeft s x d ys e → IsLeft s x c (xs ++ ys) e
  left_joins c d e xs ys (inl programs) second = inl (any_first (on_page s.page (page_start s.page x)) xs ys programs)
  left_joins c d e xs ys (inr first) (inl programs) = inl (any_second (on_page s.page (page_start s.page x)) xs ys programs)
  left_joins c d e xs ys (inr first) (inr (inr blank)) = inr (inr blank)
  left_joins c d e xs ys (inr (inr blank)) (inr (inl stays)) = inr (inr (stays.0 ∙ blank))
  left_joins c d e xs ys (inr (inl was)) (inr (inl stays)) = inr (inl (stays.0 ∙ was.0, any_neither (on_address s.meaning x) xs ys was.1 stays.1))

  joins : (c d e : Chip) (xs ys : List Event) → Leaves s x c xs d → Leaves s x d ys e → Leaves s x c (xs ++ ys) e
  joins c d e xs ys first second inside =
      let one = first inside in
      let other = second one.0 in
      (other.0, left_joins c d e xs ys one.1 other.1)

  -- a run
  pub run_leaves : (c d : Chip) (steps : List Step) → run s c steps ≡ Ok d → Leaves s x c (events_from s 0 c steps) d
  run_leaves c d steps h = run_related s (Leaves s x) none_leaves one_leaves joins 0 c d steps h
