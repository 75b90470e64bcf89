use Rattle.std.proofs.Common.{◌≡◌}
use Rattle.nor_sfdp.specs.Headers.{headers_of, newest}
use Rattle.nor_sfdp.proofs.header.newest.Given as goal

abbrev pub invariant-loop-i : goal.invariant-loop-i
invariant-loop-i l = l.taken ≡ newest l.id (headers_of l.bytes l.i)
