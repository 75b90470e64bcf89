-- No byte is counted up to here.
use Rattle.std.proofs.Common.{◌≡◌, replicate}
use Rattle.nor_map.proofs.cells.uncounted.Given as goal

abbrev pub invariant-loop : goal.invariant-loop
invariant-loop l = l.counts.items ≡ replicate l.counter 0
