-- The lines so far are right.
use Rattle.std.proofs.Common.{length}
use Rattle.nor_script.specs.Faults.{IsRight}
use Rattle.nor_script.proofs.reader.read_steps.Given as goal

abbrev pub invariant-loop-line : goal.invariant-loop-line
invariant-loop-line l = IsRight l.text l.steps.items l.rest

abbrev pub decreases-loop-line : goal.decreases-loop-line
decreases-loop-line l = length l.rest
