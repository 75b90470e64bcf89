-- The cells of the steps so far are marked.
use Rattle.std.proofs.Common.{◌≡◌, take}
use Rattle.nor_cells.specs.Marks.{MarkedBy}
use Rattle.nor_cells.specs.Touched.{IsTouched, mode_past_all}
use Rattle.nor_cells.proofs.touched.mark_steps.Given as goal

abbrev pub invariant-loop-step : goal.invariant-loop-step
invariant-loop-step l = record {
  mode : l.mode4 ≡ mode_past_all l.meaning l.fn.mode4 (take l.step-index l.steps);
  marked : MarkedBy (IsTouched l.meaning l.fn.mode4 (take l.step-index l.steps)) l.fn.marks l.marks;
}
