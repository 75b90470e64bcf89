-- As often as is left, from this size.
use Rattle.std.proofs.Common.{◌≡◌, ◌<◌, ◌-◌, max}
use Rattle.nor_map.specs.Cells.{doubled}
use Rattle.nor_map.proofs.sizes.cell_size.Given as goal

abbrev pub invariant-loop : goal.invariant-loop
invariant-loop l = record {
  same : doubled 16 (max l.page 1) l.size ≡ doubled (16 - l.counter) l.cell l.size;
  some : 0 < l.cell;
}
