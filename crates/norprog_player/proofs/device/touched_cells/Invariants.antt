-- The cells are those of the steps before the ones that are ahead.
use Rattle.std.proofs.Common.{◌≡◌, ◌++◌, List, length}
use Rattle.nor_base.specs.declared.step.Step.{Step}
use Rattle.nor_cells.specs.Touched.{HasTouched}
use Rattle.norprog_player.proofs.device.touched_cells.Given as goal

abbrev pub invariant-loop-ahead : goal.invariant-loop-ahead
invariant-loop-ahead l = (done : List Step) × (l.fn.course.steps.now ≡ done ++ l.ahead) × HasTouched l.fn.course.meaning.now l.fn.course.expected.start done l.cells

abbrev pub decreases-loop-ahead : goal.decreases-loop-ahead
decreases-loop-ahead l = length l.ahead
