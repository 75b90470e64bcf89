-- The bytes so far are kept.
use Rattle.std.proofs.Common.{ℕ, ◌<◌}
use Rattle.norprog_flash.specs.Resumed.{IsKept}
use Rattle.norprog_flash.proofs.resumed.has_kept.Given as goal

abbrev pub invariant-loop-at : goal.invariant-loop-at
invariant-loop-at l = (k : ℕ) → k < l.at → IsKept l.erased l.held l.old k
