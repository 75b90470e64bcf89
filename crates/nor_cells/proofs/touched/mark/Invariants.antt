-- The cells up to here are marked.
use Rattle.std.proofs.Common.{◌≡◌, ℕ, ◌<◌, ◌≤◌, false, ◌&&◌, ◌||◌, nat_le, nat_lt, length, get_or}
use Rattle.nor_cells.proofs.touched.mark.Given as goal

abbrev pub invariant-loop-c : goal.invariant-loop-c
invariant-loop-c l = record {
  same_length : length l.marks ≡ length l.initial.marks;
  each : (c : ℕ) → c < length l.initial.marks → get_or l.marks c false ≡ (get_or l.initial.marks c false || (nat_le l.begin c && nat_lt c l.c));
  from : l.begin ≤ l.c;
  ends : l.last < l.c → l.c ≡ l.begin;
}
