-- Of the cells up to here it is known.
use Rattle.std.proofs.Common.{◌≡◌, not, map}
use Rattle.std.specs.List.{range_with_len}
use Rattle.nor_map.specs.declared.state.State.TheVariants.{Kept}
use Rattle.nor_map.specs.Marks.{is_state, state_at}
use Rattle.nor_map.proofs.rows.busy_of.Given as goal

abbrev pub invariant-loop-c : goal.invariant-loop-c
invariant-loop-c l = l.busy.items ≡ map (λ c. not (is_state (state_at l.marks c) Kept)) (range_with_len 0 l.c)
