-- The steps so far are doable.
use Rattle.std.proofs.Common.{◌≡◌, ◌++◌, List, length}
use Rattle.std.specs.Prelude.{All}
use Rattle.nor_base.specs.declared.step.Step.{Step}
use Rattle.nor_serprog.specs.Done.{IsDoable}
use Rattle.nor_flasher.proofs.packed.PackedSteps.are_doable.Given as goal

abbrev pub invariant-loop-steps : goal.invariant-loop-steps
invariant-loop-steps l = (front : List Step) × (l.self ≡ front ++ l.steps) × All IsDoable front

abbrev pub decreases-loop-steps : goal.decreases-loop-steps
decreases-loop-steps l = length l.steps
