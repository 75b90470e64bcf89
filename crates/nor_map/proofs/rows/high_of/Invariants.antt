-- How high the first rows are.
use Rattle.std.proofs.Common.{◌≡◌, ◌≤◌, ◌*◌}
use Rattle.nor_map.specs.Rows.{top_of}
use Rattle.nor_map.proofs.rows.high_of.Given as goal

abbrev pub invariant-loop-row : goal.invariant-loop-row
invariant-loop-row l = record {
  high : l.top ≡ top_of l.cells l.columns l.row;
  few : l.top ≤ 4 * l.row;
}
