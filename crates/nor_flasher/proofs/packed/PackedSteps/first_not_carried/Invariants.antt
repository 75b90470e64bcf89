-- The steps so far are carried.
use Rattle.std.proofs.Common.{◌≡◌, ◌++◌, List, length}
use Rattle.nor_base.specs.declared.step.Step.{Step}
use Rattle.nor_serprog.specs.Steps.{AreCarried}
use Rattle.nor_flasher.proofs.packed.PackedSteps.first_not_carried.Given as goal

abbrev pub invariant-loop-steps : goal.invariant-loop-steps
invariant-loop-steps l = (front : List Step) × (l.self ≡ front ++ l.steps) × AreCarried l.limits front

abbrev pub decreases-loop-steps : goal.decreases-loop-steps
decreases-loop-steps l = length l.steps
