-- The cells up to here are counted.
use Rattle.std.proofs.Common.{◌≡◌, ◌≤◌}
use Rattle.std.specs.Prelude.{count_by, map}
use Rattle.std.specs.List.{range_with_len}
use Rattle.nor_map.specs.Marks.{is_state, state_at}
use Rattle.nor_map.proofs.totals.cells_in.Given as goal

abbrev pub invariant-loop-c : goal.invariant-loop-c
invariant-loop-c l = record {
  counted : l.count ≡ count_by (λ t. is_state t l.state) (map (state_at l.marks) (range_with_len 0 l.c));
  few : l.count ≤ l.c;
}
