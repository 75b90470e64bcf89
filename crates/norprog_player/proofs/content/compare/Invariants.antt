-- The marked bytes so far were read.
use Rattle.std.proofs.Common.{◌≤◌, ◌-◌, length}
use Rattle.nor_base.specs.Wire.{wire}
use Rattle.norprog_player.specs.Compared.{comparison, HasComparedTo}
use Rattle.nor_cells.specs.Marks.{IsMarked}
use Rattle.norprog_player.proofs.content.compare.Given as goal

abbrev pub invariant-loop-start : goal.invariant-loop-start
invariant-loop-start g l = record {
  within : l.done ≤ length l.content;
  read : HasComparedTo (wire (g.W.ByteOut.held l.fn.to) (g.R.ByteIn.ahead l.fn.from)) (wire (g.W.ByteOut.held l.to) (g.R.ByteIn.ahead l.from))
      (comparison l.limits l.access l.content (IsMarked l.marks)) l.done;
}

abbrev pub decreases-loop-start : goal.decreases-loop-start
decreases-loop-start g l = length l.content - l.done
