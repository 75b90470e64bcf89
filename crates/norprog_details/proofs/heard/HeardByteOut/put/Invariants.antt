-- The writer has taken the bytes.
use Rattle.std.proofs.Common.{◌≡◌}
use Rattle.norprog_details.proofs.heard.HeardByteOut.put.Given as goal

abbrev pub invariant-loop-byte : goal.invariant-loop-byte
invariant-loop-byte o l = l.self.out ≡ l.initial.self.out
