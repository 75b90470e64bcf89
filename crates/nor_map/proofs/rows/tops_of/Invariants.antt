-- Where the first rows are, and the next.
use Rattle.std.proofs.Common.{◌≡◌, ◌≤◌, ◌*◌}
use Rattle.std.specs.Prelude.{map}
use Rattle.std.specs.List.{range_with_len}
use Rattle.nor_map.specs.Rows.{top_of}
use Rattle.nor_map.proofs.rows.tops_of.Given as goal

abbrev pub invariant-loop-row : goal.invariant-loop-row
invariant-loop-row l = record {
  each : l.tops.items ≡ map (top_of l.cells l.columns) (range_with_len 0 l.row);
  high : l.top ≡ top_of l.cells l.columns l.row;
  few : l.top ≤ 4 * l.row;
}
