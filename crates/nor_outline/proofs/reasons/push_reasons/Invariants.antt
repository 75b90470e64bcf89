-- What was appended so far is the lines of the smallest blocks before this one, which starts at a border.
use Rattle.std.proofs.Common.{◌≡◌, ◌+◌, ◌++◌, ◌≤◌, ◌-◌, length}
use Rattle.nor_outline.proofs.ReasonLemmas.{IsBorder}
use Rattle.nor_outline.proofs.WalkLemmas.{lines}
use Rattle.nor_outline.proofs.reasons.push_reasons.Given as goal

abbrev pub invariant-loop-done : goal.invariant-loop-done
invariant-loop-done l = record {
  upto : l.done ≤ length l.have;
  border : IsBorder l.meaning (l.fn.block.start + l.done);
  pushed : l.lines.items ≡ l.fn.lines.items ++ lines l.meaning l.have l.want l.fn.block.start l.fn.block.start l.done;
}

abbrev pub decreases-loop-done : goal.decreases-loop-done
decreases-loop-done l = length l.have - l.done
