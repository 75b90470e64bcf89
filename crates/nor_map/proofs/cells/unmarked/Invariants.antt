-- None is so up to here.
use Rattle.std.proofs.Common.{◌≡◌, false, replicate}
use Rattle.nor_map.proofs.cells.unmarked.Given as goal

abbrev pub invariant-loop : goal.invariant-loop
invariant-loop l = l.marks.items ≡ replicate l.counter false
