-- The steps before those that are ahead were done.
use Rattle.std.proofs.Common.{◌≡◌, ◌++◌, List, length}
use Rattle.nor_base.specs.declared.step.Step.{Step}
use Rattle.nor_base.specs.Wire.{wire}
use Rattle.nor_serprog.specs.Done.{HasDoneAll}
use Rattle.norprog_player.proofs.windows.do_windows.Given as goal

abbrev pub invariant-loop-ahead : goal.invariant-loop-ahead
invariant-loop-ahead g l =
    (front : List Step) × (l.fn.steps ≡ front ++ l.ahead)
    × HasDoneAll (wire (g.W.ByteOut.held l.fn.to) (g.R.ByteIn.ahead l.fn.from)) (wire (g.W.ByteOut.held l.to) (g.R.ByteIn.ahead l.from)) l.doing.limits l.doing.turns front

abbrev pub decreases-loop-ahead : goal.decreases-loop-ahead
decreases-loop-ahead g l = length l.ahead
