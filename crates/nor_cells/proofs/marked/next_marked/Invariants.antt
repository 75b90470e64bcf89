-- No cell so far is marked.
use Rattle.std.proofs.Common.{◌≡◌, ℕ, ◌<◌, ◌≤◌, ◌/◌, false, get_or}
use Rattle.nor_cells.proofs.marked.next_marked.Given as goal

abbrev pub invariant-loop-c : goal.invariant-loop-c
invariant-loop-c l = (b : ℕ) → l.from / 256 ≤ b → b < l.c → get_or l.marks b false ≡ false
