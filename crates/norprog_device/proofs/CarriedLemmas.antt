-- Steps that are operations of the device.
use Rattle.std.proofs.Common.{◌≡◌, ◌≢◌, ◌∙◌, ℕ, suc, List, [], ◌∷◌, ◌++◌, get_or, All, Option, Some, None, inl, inr, refl, sym, subst, arith}
use Rattle.nor_base.specs.declared.step.Step.{Step}
use Rattle.nor_base.specs.declared.step.Step.TheVariants.{Send, Poll, Verify}
use Rattle.nor_base.specs.Device.{Ahead}
use Rattle.nor_base.specs.Parameters.{Parameters}
use Rattle.nor_base.specs.Step.{expected, step_clocks}
use Rattle.nor_reader.specs.declared.difference.Mismatch.{Mismatch}
use Rattle.nor_reader.specs.declared.difference.Mismatch.TheVariants as mismatch
use Rattle.nor_serprog.specs.declared.fault.Fault.TheVariants as fault
use Rattle.nor_serprog.specs.declared.fault.Reason.{Reason}
use Rattle.nor_serprog.specs.declared.fault.Reason.TheVariants as reason
use Rattle.nor_serprog.specs.declared.limits.Limits.{Limits}
use Rattle.nor_serprog.specs.declared.halt.Halt.{Halt}
use Rattle.nor_serprog.specs.Done.{HasStopped}
use Rattle.nor_serprog.specs.Row.{HasHalted}
use Rattle.nor_serprog.specs.Steps.{AreCarried, IsCarried}
use Rattle.norprog_device.specs.declared.failure.Failure.{Failure}
use Rattle.norprog_device.specs.declared.failure.Failure.TheVariants as failure
use Rattle.norprog_device.specs.Reported.{other_byte, read_address, FailsAs, IsFailureAt, failure_by}
use Rattle.nor_base.specs.Wire.{Wire, wire}

tail_of : (P : Step → Type 0) (x : Step) (xs : List Step) → All P (x ∷ xs) → All P xs
tail_of P x xs all = λ k d lt. all (suc k) d (omega (arith, lt))

-- what each step is that one is which comes after some
one_after : (P : Step → Type 0) (done rest : List Step) (x : Step) → All P (done ++ (x ∷ rest)) → P x
one_after P [] rest x all = all 0 x (omega arith)
one_after P (y ∷ done) rest x all = one_after P done rest x (tail_of P y (done ++ (x ∷ rest)) all)

-- a device never stops at an operation as if it were none
never_none : (h i : Option (List ℕ)) (a b : Ahead) (limits : Limits) (turns : ℕ) (x : Step) → IsCarried limits x
    → HasStopped (wire h a) (wire i b) limits turns reason.Carried x → ⊥
never_none h i a b limits turns (Send clocks) can stopped = stopped.none can.0 can.1 can.2
never_none h i a b limits turns (Poll clocks) can stopped = stopped.1
never_none h i a b limits turns (Verify clocks expect) can stopped = stopped.none can.0 can.1 can.2

-- another byte isn't reported as no operation
never_byte : (o : Option ℕ) (place byte want : ℕ) → failure.Carried ≡ other_byte o place byte want → ⊥
never_byte (Some start) place byte want fails = cc
never_byte None place byte want fails = cc

-- only a step that is no operation is
no_operation : (m : Parameters) (clocks want : List ℕ) (why : Reason) → FailsAs m clocks want why failure.Carried → why ≡ reason.Carried
no_operation m clocks want (reason.Exchange why) fails = let none : failure.Carried ≡ failure.Exchange why = fails in absurd cc
no_operation m clocks want reason.Busy fails = let none : failure.Carried ≡ failure.Busy = fails in absurd cc
no_operation m clocks want reason.Carried fails = refl
no_operation m clocks want (reason.Differs place byte) fails =
    absurd (never_byte (read_address m clocks) place byte (get_or want place 0) fails)

-- of steps that are operations none fails as none
pub never_carried : (m : Parameters) (limits : Limits) (turns : ℕ) (before after : Wire) (steps : List Step) (halt : Halt) (why : Failure) → AreCarried limits steps
    → HasHalted before after limits turns steps halt → IsFailureAt m steps halt why → why ≢ failure.Carried
never_carried m limits turns before after steps halt why carried halted at is =
    let none : halt.why ≡ reason.Carried =
    no_operation m (step_clocks at.0) (expected at.0) halt.why (subst (λ (f : Failure). FailsAs m (step_clocks at.0) (expected at.0) halt.why f) is at.2) in
    let can : IsCarried limits halted.at =
    one_after (IsCarried limits) halted.done (halted.beyond ++ halted.rest) halted.at (subst (AreCarried limits) halted.those carried) in
    elim halted.stopped [
      | inl within ↦ never_none halted.held within.held halted.ahead after.ahead limits turns halted.at can
          (subst (λ (r : Reason). HasStopped (wire halted.held halted.ahead) (wire within.held after.ahead) limits turns r halted.at) none within.stopped)
      | inr cut ↦ let bad : reason.Carried ≡ reason.Exchange fault.Write = sym none ∙ cut.writer in cc
    ]

-- nor the last reading
pub never_misses : (why : Mismatch) (failed : Failure) → failed ≡ failure_by why → failed ≢ failure.Carried
never_misses (mismatch.Exchange why) failed is none = let bad : failure.Carried ≡ failure.Exchange why = sym none ∙ is in cc
never_misses (mismatch.Differs d) failed is none = let bad : failure.Carried ≡ failure.Differs d = sym none ∙ is in cc
