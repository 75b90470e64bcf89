-- Each status so far said busy.
use Rattle.std.proofs.Common.{◌≡◌}
use Rattle.nor_reader.proofs.StatusLemmas.{HasWaitedFor}
use Rattle.nor_reader.proofs.status.idle_status.Given as goal

abbrev pub invariant-loop : goal.invariant-loop
invariant-loop g l = record {
  busy : HasWaitedFor (g.W.ByteOut.held l.fn.to) (g.W.ByteOut.held l.to) (g.R.ByteIn.ahead l.fn.from) (g.R.ByteIn.ahead l.from) l.counter;
  reads : g.R.ByteIn.count l.from ≡ g.R.ByteIn.count l.fn.from;
  writes : g.W.ByteOut.count l.to ≡ g.W.ByteOut.count l.fn.to;
}
