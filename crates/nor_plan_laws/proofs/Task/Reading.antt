-- The clocks of a read may stand in a verifying step.
use Rattle.std.proofs.Common.{◌≡◌, ℕ, ◌+◌, ◌/◌, ◌<◌, ◌==◌, nat_eq, Bool, true, false, cond, ◌||◌, if◌then◌else◌, List, [], ◌∷◌, take, drop, Some, None, option_map, refl, sym, ◌∙◌, ap, arith, inl, inr, zero-add, eqb-true}
use Rattle.std.specs.Prelude.{codes, count_by}
use Rattle.std.specs.List.{list_any, starts_with}
use Rattle.std.proofs.lemmas.Bool.{cases_Bool, both_ways, or_parts}
use Rattle.std.proofs.lemmas.List.Sums.{sum_by-cons}
use Rattle.std.proofs.lemmas.Slice.Eq.{bytes_eq-Decides}
use Rattle.nor_base.specs.declared.instruction.What.{What}
use Rattle.nor_base.specs.declared.instruction.What.TheVariants as what
use Rattle.nor_base.specs.Parameters.{Parameters}
use Rattle.nor_base.specs.Sample.{sampled_count}
use Rattle.nor_base.specs.Instructions.{row, row_of}
use Rattle.nor_base.specs.Decoding.{Instruction, instruction, decode, transaction, by_row, is_form, has_opcode, opcode, number, is_bit_sampled, is_nibble_sampled, bit}
use Rattle.nor_base.specs.Effect.{is_read, is_broken}
use Rattle.nor_base.specs.Run.{samples_some, is_verify}
use Rattle.nor_base.proofs.SampledLaws.{asks_sampled}

-- an opcode of 05h is a status read, or broken
by_status : (m : Parameters) (mode4 : Bool) → row_of m mode4 0x05 ≡ Some (row 0x05 true what.Status 0)
unfolding row_of
by_status m mode4 = refl

status_reads_nothing : (rest : List ℕ) (b : Bool) → is_form (row 0x05 true what.Status 0) rest ≡ b → is_read (instruction (by_row rest (row 0x05 true what.Status 0))).what ≡ false
unfolding by_row
status_reads_nothing rest true is = rw is refl
status_reads_nothing rest false is = rw is refl

status_or_none : (m : Parameters) (mode4 : Bool) (clocks : List ℕ) (i : Instruction) (b : Bool) → opcode clocks ≡ 0x05
    → option_map instruction (if b then option_map (by_row (drop 8 clocks)) (row_of m mode4 (opcode clocks)) else None) ≡ Some i → is_read i.what ≡ false
status_or_none m mode4 clocks i false five h = cc
status_or_none m mode4 clocks i true five h =
    let found : option_map instruction (option_map (by_row (drop 8 clocks)) (Some (row 0x05 true what.Status 0))) ≡ Some i =
    ap (λ r. option_map instruction (option_map (by_row (drop 8 clocks)) r)) (sym (ap (row_of m mode4) five ∙ by_status m mode4)) ∙ h in
    let same : instruction (by_row (drop 8 clocks) (row 0x05 true what.Status 0)) ≡ i = cc in
    ap (λ (j : Instruction). is_read j.what) (sym same) ∙ status_reads_nothing (drop 8 clocks) (is_form (row 0x05 true what.Status 0) (drop 8 clocks)) refl

five : number (codes "00000101") ≡ 0x05
unfolding bit
five = refl

no_status : (m : Parameters) (mode4 : Bool) (clocks : List ℕ) (i : Instruction) → decode m mode4 clocks ≡ Some i → is_read i.what ≡ true
    → starts_with nat_eq clocks (codes "00000101") ≡ false
unfolding decode transaction
no_status m mode4 clocks i h reads = elim (cases_Bool (starts_with nat_eq clocks (codes "00000101"))) [
  | inl starts ↦
      let front : codes "00000101" ≡ take 8 clocks = (bytes_eq-Decides (codes "00000101") (take 8 clocks)).0 starts in
      absurd (both_ways _ (status_or_none m mode4 clocks i (has_opcode clocks) (ap number (sym front) ∙ five) h) reads)
  | inr not_so ↦ not_so
]

none_counted : (test told : ℕ → Bool) → ((x : ℕ) → test x ≡ true → told x ≡ true) → (xs : List ℕ) → list_any told xs ≡ false → count_by test xs ≡ 0
none_counted test told each [] h = refl
none_counted test told each (x ∷ xs) h =
    let parts = or_parts (told x) (list_any told xs) h in
    sum_by-cons (λ y. cond (test y) 1 0) x xs ∙ ap (λ b. cond b 1 0 + count_by test xs) (untold (test x) refl parts.0)
    ∙ zero-add (count_by test xs) ∙ none_counted test told each xs parts.1
  where
    untold : (b : Bool) → test x ≡ b → told x ≡ false → test x ≡ false
    untold true is none = absurd (both_ways _ none (each x is))
    untold false is none = is

one_sampled : (x : ℕ) → x == 0x2E ≡ true → is_bit_sampled x || is_nibble_sampled x ≡ true
unfolding is_bit_sampled is_nibble_sampled
one_sampled x is = rw (eqb-true x 0x2E is) refl

four_sampled : (x : ℕ) → x == 0x3D ≡ true → is_bit_sampled x || is_nibble_sampled x ≡ true
unfolding is_bit_sampled is_nibble_sampled
four_sampled x is = rw (eqb-true x 0x3D is) refl

-- where no clock samples, no bytes are sampled
none_sampled : (clocks : List ℕ) → samples_some clocks ≡ false → sampled_count clocks ≡ 0
none_sampled clocks none =
    let dots = none_counted (λ byte. byte == 0x2E) (λ x. is_bit_sampled x || is_nibble_sampled x) one_sampled clocks none in
    let equals = none_counted (λ byte. byte == 0x3D) (λ x. is_bit_sampled x || is_nibble_sampled x) four_sampled clocks none in
    ap (λ n. n / 8 + count_by (λ byte. byte == 0x3D) clocks / 2) dots ∙ ap (λ n. 0 / 8 + n / 2) equals

reads_known : (w : What) → is_read w ≡ true → is_broken w ≡ false
reads_known what.Read h = refl
reads_known what.QuadRead h = refl
reads_known other h = cc

pub read_verifies : (m : Parameters) (mode4 : Bool) (clocks : List ℕ) (i : Instruction) → decode m mode4 clocks ≡ Some i → is_read i.what ≡ true → 0 < i.asked
    → is_verify clocks ≡ true
unfolding is_verify
read_verifies m mode4 clocks i h reads some =
    let asked = asks_sampled m mode4 clocks i h (reads_known i.what reads) in
    let samples : samples_some clocks ≡ true = elim (cases_Bool (samples_some clocks)) [
      | inl so ↦ so
      | inr none ↦ absurd (omega (arith, asked, none_sampled clocks none, some))
    ] in
    rw (samples, no_status m mode4 clocks i h reads) refl
