-- The sizes so far.
use Rattle.std.proofs.Common.{◌≤◌}
use Rattle.nor_cells.specs.Marks.{MarkedBy}
use Rattle.nor_cells.proofs.WrapLemmas.{ShowsWrapBelow}
use Rattle.nor_cells.proofs.wrap.mark_wraps.Given as goal

abbrev pub invariant-loop-k : goal.invariant-loop-k
invariant-loop-k l = record {
  low : 12 ≤ l.k;
  marked : MarkedBy (ShowsWrapBelow l.content l.k) l.fn.marks l.marks;
}
