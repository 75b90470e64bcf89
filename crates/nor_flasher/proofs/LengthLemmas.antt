-- Steps of planned work are operations, which only a device's limits refuse.
use Rattle.std.proofs.Common.{◌≡◌, inl, inr, ℕ, zero, suc, ◌<◌, Bool, true, false, get_or, List, [], ◌∷◌, ◌++◌, length, refl, sym, ◌∙◌, ap, subst, arith}
use Rattle.std.specs.Prelude.{nat_lt}
use Rattle.std.specs.List.{AllByRecursion, list_all}
use Rattle.std.proofs.lemmas.Bool.{and_parts, cases_lt, lt-ltb}
use Rattle.std.proofs.lemmas.List.Folds.{list_all-append}
use Rattle.nor_base.specs.declared.instruction.What.{What}
use Rattle.nor_base.specs.declared.instruction.What.TheVariants as what
use Rattle.nor_base.specs.declared.meaning.Start.{Start}
use Rattle.nor_base.specs.declared.step.Step.{Step}
use Rattle.nor_base.specs.declared.step.Step.TheVariants.{Send, Poll, Verify}
use Rattle.nor_base.specs.Array.{are_bytes}
use Rattle.nor_base.specs.Chip.{begins4}
use Rattle.nor_base.specs.Clocks.{bits, address_bytes, head_bytes, CanCarry, CanBeSpelled, CanAllBeSpelled}
use Rattle.nor_base.specs.Instructions.{Form, nothing, sends, sends4, samples, samples4, form_of}
use Rattle.nor_base.specs.Parameters.{Parameters}
use Rattle.nor_base.specs.Planned.{planned, ArePlanned, IsWorkable}
use Rattle.nor_base.specs.Run.{poll_clocks}
use Rattle.nor_base.specs.Spelling.{Instr, Spells, bytes_to_send, count_to_read, IsSentBy, IsReadBy, IsStepBy, AreStepsOf, mode_after}
use Rattle.nor_base.specs.Step.{step_clocks}
use Rattle.nor_laws.specs.Spelling.{OneSpelling}
use Rattle.nor_plan_laws.specs.Exists.{PlannedCanBeSpelled}
use Rattle.nor_serprog.specs.declared.limits.Limits.{Limits}
use Rattle.nor_serprog.specs.Carried.{operation_clocks}
use Rattle.nor_serprog.specs.Steps.{IsCarried}
use Rattle.nor_loop.specs.Single.{is_single, SingleIsOperation, PlannedIsSingle}
use Rattle.nor_flasher.specs.Laws.{IsTooLong, RefusedForLength}

-- an operation takes as many bytes as its step expects
abbrev pub AsksFor : Step → ℕ → Type 0
AsksFor (Send symbols) asked = asked ≡ 0
AsksFor (Poll symbols) asked = symbols ≡ poll_clocks
AsksFor (Verify symbols expect) asked = asked ≡ length expect

-- the clocks of a step are one operation
pub record IsOne (x : Step) : Type 0 where
  pub sent : List ℕ
  pub asked : ℕ
  pub spelled : step_clocks x ≡ operation_clocks sent asked
  pub bytes : are_bytes sent ≡ true
  pub some : 0 < length sent
  pub fits : AsksFor x asked

is_byte : (n : ℕ) (rest : List ℕ) → n < 256 → are_bytes rest ≡ true → are_bytes (n ∷ rest) ≡ true
is_byte n rest small others = rw (lt-ltb n 256 small, others) refl

address_is_bytes : (n address : ℕ) → are_bytes (address_bytes n address) ≡ true
address_is_bytes zero address = refl
address_is_bytes (suc n) address = is_byte _ (address_bytes n address) (omega arith) (address_is_bytes n address)

sends_bytes : (form : Form) (bytes : List ℕ) → CanCarry form bytes → are_bytes (bytes_to_send form bytes) ≡ true
sends_bytes nothing bytes can = refl
sends_bytes sends bytes can = can.1
sends_bytes sends4 bytes can = can.1
sends_bytes samples bytes can = refl
sends_bytes samples4 bytes can = refl

sent_bytes : (i : Instr) → i.op < 256 → CanCarry (form_of i.what) i.bytes → are_bytes (head_bytes i ++ bytes_to_send (form_of i.what) i.bytes) ≡ true
sent_bytes i op can =
    let head = is_byte i.op (address_bytes i.width i.address) op (address_is_bytes i.width i.address) in
    let body = sends_bytes (form_of i.what) i.bytes can in
    list_all-append (λ n. nat_lt n 256) (head_bytes i) (bytes_to_send (form_of i.what) i.bytes) ∙ (rw (head, body) refl)

-- a poll reads the status
poll_is_one : poll_clocks ≡ operation_clocks (0x05 ∷ []) 1
unfolding bits
poll_is_one = refl

-- of an instruction on one lane that the chip has
is_one : OneSpelling → SingleIsOperation → (m : Parameters) (mode4 : Bool) (i : Instr) (clocks : List ℕ) (x : Step) → is_single i ≡ true
    → CanBeSpelled m mode4 i → Spells m mode4 i clocks → step_clocks x ≡ clocks → AsksFor x (count_to_read (form_of i.what) i.bytes) → IsOne x
is_one one operation m mode4 i clocks x single can spelled is fits = record {
  sent = head_bytes i ++ bytes_to_send (form_of i.what) i.bytes;
  asked = count_to_read (form_of i.what) i.bytes;
  spelled = is ∙ one m mode4 i clocks can.row can.fits spelled ∙ operation i single;
  bytes = sent_bytes i can.fits.op can.fits.carried;
  some = omega arith;
  fits = fits;
}

-- as many bytes as an instruction of this kind reads
reads_as : (i : Instr) (w : What) (n : ℕ) → i.what ≡ w → count_to_read (form_of w) i.bytes ≡ n → count_to_read (form_of i.what) i.bytes ≡ n
reads_as i w n is many = ap (λ (v : What). count_to_read (form_of v) i.bytes) is ∙ many

sent_one : OneSpelling → SingleIsOperation → (m : Parameters) (mode4 : Bool) (i : Instr) (w : What) (x : Step) → i.what ≡ w → is_single i ≡ true
    → CanBeSpelled m mode4 i → count_to_read (form_of w) i.bytes ≡ 0 → IsSentBy m mode4 i x → IsOne x
sent_one one operation m mode4 i w x is single can none by =
    subst IsOne (sym by.sent) (is_one one operation m mode4 i by.clocks (Send by.clocks) single can by.spelled refl (reads_as i w 0 is none))

read_one : OneSpelling → SingleIsOperation → (m : Parameters) (mode4 : Bool) (i : Instr) (w : What) (x : Step) → i.what ≡ w → is_single i ≡ true
    → CanBeSpelled m mode4 i → count_to_read (form_of w) i.bytes ≡ length i.bytes → IsReadBy m mode4 i x → IsOne x
read_one one operation m mode4 i w x is single can all by =
    subst IsOne (sym by.read) (is_one one operation m mode4 i by.clocks (Verify by.clocks i.bytes) single can by.spelled refl (reads_as i w (length i.bytes) is all))

step_is_one : OneSpelling → SingleIsOperation → (m : Parameters) (mode4 : Bool) (i : Instr) (w : What) (x : Step) → i.what ≡ w → is_single i ≡ true
    → CanBeSpelled m mode4 i → IsStepBy m mode4 i w x → IsOne x
step_is_one one operation m mode4 i what.Status x is single can by =
    subst IsOne (sym by) (record { sent = 0x05 ∷ []; asked = 1; spelled = poll_is_one; bytes = refl; some = omega arith; fits = refl })
step_is_one one operation m mode4 i what.Read x is single can by = read_one one operation m mode4 i what.Read x is single can refl by
step_is_one one operation m mode4 i what.QuadRead x is single can by = read_one one operation m mode4 i what.QuadRead x is single can refl by
step_is_one one operation m mode4 i what.Enable x is single can by = sent_one one operation m mode4 i what.Enable x is single can refl by
step_is_one one operation m mode4 i what.Disable x is single can by = sent_one one operation m mode4 i what.Disable x is single can refl by
step_is_one one operation m mode4 i what.Enter x is single can by = sent_one one operation m mode4 i what.Enter x is single can refl by
step_is_one one operation m mode4 i what.Leave x is single can by = sent_one one operation m mode4 i what.Leave x is single can refl by
step_is_one one operation m mode4 i (what.Erase kind) x is single can by = sent_one one operation m mode4 i (what.Erase kind) x is single can refl by
step_is_one one operation m mode4 i what.Program x is single can by = sent_one one operation m mode4 i what.Program x is single can refl by
step_is_one one operation m mode4 i what.QuadProgram x is single can by = sent_one one operation m mode4 i what.QuadProgram x is single can refl by
step_is_one one operation m mode4 i what.Broken x is single can by = sent_one one operation m mode4 i what.Broken x is single can refl by

steps_are_one : OneSpelling → SingleIsOperation → (m : Parameters) (mode4 : Bool) (is : List Instr) (steps : List Step) → list_all is_single is ≡ true
    → CanAllBeSpelled m mode4 is → AreStepsOf m mode4 is steps → AllByRecursion IsOne steps
steps_are_one one operation m mode4 [] [] single can those = tt
steps_are_one one operation m mode4 [] (x ∷ xs) single can those = absurd those
steps_are_one one operation m mode4 (i ∷ more) [] single can those = absurd those
steps_are_one one operation m mode4 (i ∷ more) (x ∷ xs) single can those =
    let parts = and_parts (is_single i) (list_all is_single more) single in
    (step_is_one one operation m mode4 i i.what x refl parts.0 can.0 those.0, steps_are_one one operation m (mode_after i.what mode4) more xs parts.1 can.1 those.1)

-- each step of planned work is one
abbrev pub PlannedIsOne : Type 0
PlannedIsOne = (m : Parameters) (start : Start) (verify : Bool) (have want : List ℕ) (steps : List Step) → IsWorkable m start have want
    → start.quad ≡ false → ArePlanned m start verify have want steps → AllByRecursion IsOne steps

pub planned_is_one : OneSpelling → PlannedCanBeSpelled → SingleIsOperation → PlannedIsSingle → PlannedIsOne
planned_is_one one can operation single m start verify have want steps able off those =
    steps_are_one one operation m (begins4 m start) (planned m start verify have want) steps (single m start verify have want off)
    (can m start verify have want able) those

pub one_at : (steps : List Step) (at : ℕ) (x : Step) → at < length steps → x ≡ get_or steps at x → AllByRecursion IsOne steps → IsOne x
one_at [] at x within is all = absurd (omega arith)
one_at (y ∷ ys) zero x within is all = subst IsOne (sym is) all.0
one_at (y ∷ ys) (suc at) x within is all = one_at ys at x (omega arith) is all.1

-- an operation that a device can't do is too long for it
too_long : (limits : Limits) (x : Step) → IsOne x → (IsCarried limits x → ⊥) → IsTooLong limits x
too_long limits x one none =
    elim (cases_lt limits.sent (length one.sent)) [
      | inl more ↦ record { sent = one.sent; asked = one.asked; spelled = one.spelled; much = inl more }
      | inr few_sent ↦ elim (cases_lt limits.asked one.asked) [
        | inl more ↦ record { sent = one.sent; asked = one.asked; spelled = one.spelled; much = inr more }
        | inr few_asked ↦ absurd (none (
          one.sent,
          one.asked,
          record { spelled = one.spelled; bytes = one.bytes; some = one.some; few_sent = few_sent; few_asked = few_asked },
        ))
      ]
    ]

pub refused_for_length : PlannedIsOne → RefusedForLength
refused_for_length ones limits m start verify have want steps at able off those refused =
    too_long limits refused.first (one_at steps at refused.first refused.within refused.is (ones m start verify have want steps able off those)) refused.none
