-- The steps of the windows so far were done.
use Rattle.std.proofs.Common.{◌≡◌, ◌-◌, length}
use Rattle.nor_base.specs.Wire.{wire}
use Rattle.nor_serprog.specs.Done.{HasDoneAll}
use Rattle.norprog.specs.Stepper.{IsAtWindow, made, steps_upto, update_of}
use Rattle.norprog_flash.proofs.windows.do_windows.Given as goal

abbrev pub invariant-loop-done : goal.invariant-loop-done
invariant-loop-done g l = record {
  ready : IsAtWindow l.stepper;
  same : update_of l.stepper ≡ update_of l.fn.steps.stepper;
  count : l.done ≡ length (made l.stepper);
  all : l.windows ≡ length (steps_upto (update_of l.fn.steps.stepper) (length l.fn.steps.stepper.have));
  did : HasDoneAll (wire (g.W.ByteOut.held l.fn.to) (g.R.ByteIn.ahead l.fn.from)) (wire (g.W.ByteOut.held l.to) (g.R.ByteIn.ahead l.from)) l.doing.limits l.doing.turns (made l.stepper);
}

abbrev pub decreases-loop-done : goal.decreases-loop-done
decreases-loop-done g l = length l.stepper.have - l.stepper.at
