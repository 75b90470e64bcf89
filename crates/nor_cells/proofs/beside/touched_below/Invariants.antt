-- The cells from there on are blank and not touched.
use Rattle.std.proofs.Common.{ℕ, ◌<◌, ◌≤◌}
use Rattle.nor_cells.specs.Beside.{IsHeld}
use Rattle.nor_cells.specs.Marks.{IsMarkedCell}
use Rattle.nor_cells.proofs.beside.touched_below.Given as goal

abbrev pub invariant-loop-d : goal.invariant-loop-d
invariant-loop-d l = record {
  within : l.d ≤ l.c;
  bare : (e : ℕ) → l.d ≤ e → e < l.c → (IsHeld l.content e → ⊥) × (IsMarkedCell l.touched e → ⊥);
}

abbrev pub decreases-loop-d : goal.decreases-loop-d
decreases-loop-d l = l.d
