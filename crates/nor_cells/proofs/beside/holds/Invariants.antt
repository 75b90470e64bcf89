-- The bytes of the cell so far are blank.
use Rattle.std.proofs.Common.{◌≡◌, ℕ, ◌*◌, ◌<◌, ◌≤◌}
use Rattle.std.specs.Prelude.{slice_index}
use Rattle.nor_cells.proofs.beside.holds.Given as goal

abbrev pub invariant-loop-at : goal.invariant-loop-at
invariant-loop-at l = (b : ℕ) → 256 * l.c ≤ b → b < l.at → slice_index l.content b ≡ 0xFF
