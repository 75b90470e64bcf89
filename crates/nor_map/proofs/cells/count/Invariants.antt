-- The new bytes below this address are counted.
use Rattle.std.proofs.Common.{◌≤◌, ◌&&◌, nat_le, nat_lt}
use Rattle.nor_map.specs.Cells.{bytes_so, is_new}
use Rattle.nor_map.specs.Marks.{CountedBy}
use Rattle.nor_map.proofs.cells.count.Given as goal

abbrev pub invariant-loop-a : goal.invariant-loop-a
invariant-loop-a l = record {
  counted : CountedBy l.cell (bytes_so l.cell (λ x. (nat_le l.first x && nat_lt x l.a) && is_new l.wanted x)) l.initial.counts l.counts;
  from : l.first ≤ l.a;
}
