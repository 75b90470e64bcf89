-- The windows so far were looked at.
use Rattle.std.proofs.Common.{◌≡◌, ◌-◌, length}
use Rattle.nor_serprog.specs.Steps.{AreCarried}
use Rattle.norprog.specs.Stepper.{IsAtWindow, made, update_of}
use Rattle.norprog_flash.proofs.survey.look_through.Given as goal

abbrev pub invariant-loop-stepper : goal.invariant-loop-stepper
invariant-loop-stepper l = record {
  ready : IsAtWindow l.stepper;
  same : update_of l.stepper ≡ update_of l.fn.stepper;
  count : l.seen ≡ length (made l.stepper);
  carried : AreCarried l.limits (made l.stepper);
}

abbrev pub decreases-loop-stepper : goal.decreases-loop-stepper
decreases-loop-stepper l = length l.stepper.have - l.stepper.at
