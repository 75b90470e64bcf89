-- The cells so far are marked.
use Rattle.std.proofs.Common.{◌≡◌, ℕ, ◌<◌, ◌≤◌, ◌-◌, ◌/◌, true, false, length, get_or}
use Rattle.nor_cells.proofs.marked.marked_len.Given as goal

abbrev pub invariant-loop-end : goal.invariant-loop-end
invariant-loop-end l = record {
  past : l.start / 256 < l.end;
  within : l.end ≤ length l.marks;
  each : (b : ℕ) → l.start / 256 ≤ b → b < l.end → get_or l.marks b false ≡ true;
}

abbrev pub decreases-loop-end : goal.decreases-loop-end
decreases-loop-end l = length l.marks - l.end
