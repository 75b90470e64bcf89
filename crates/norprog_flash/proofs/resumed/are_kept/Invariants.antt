-- The pieces so far are kept.
use Rattle.std.proofs.Common.{ℕ, ◌<◌}
use Rattle.norprog_flash.specs.Resumed.{Keeps}
use Rattle.norprog_flash.proofs.resumed.are_kept.Given as goal

abbrev pub invariant-loop-number : goal.invariant-loop-number
invariant-loop-number l = (k : ℕ) → k < l.number → Keeps l.grain l.held l.old l.goal k
