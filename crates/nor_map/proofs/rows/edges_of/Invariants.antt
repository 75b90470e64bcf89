-- There is a mark for each cell.
use Rattle.std.proofs.Common.{◌≡◌, length}
use Rattle.std.specs.Int.{div_ceil}
use Rattle.nor_map.proofs.rows.edges_of.Given as goal

abbrev pub invariant-loop-region : goal.invariant-loop-region
invariant-loop-region l = length l.edges.items ≡ div_ceil l.marks.size l.marks.cell
