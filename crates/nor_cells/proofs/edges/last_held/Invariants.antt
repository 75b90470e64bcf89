-- All bytes from there on are blank.
use Rattle.std.proofs.Common.{◌≤◌, length}
use Rattle.nor_cells.specs.Edges.{IsBackBlank}
use Rattle.nor_cells.proofs.edges.last_held.Given as goal

abbrev pub invariant-loop-end : goal.invariant-loop-end
invariant-loop-end l = record {
  within : l.end ≤ length l.content;
  blank : IsBackBlank l.content l.end;
}

abbrev pub decreases-loop-end : goal.decreases-loop-end
decreases-loop-end l = l.end
