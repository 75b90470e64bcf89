-- Each status so far said busy.
use Rattle.std.proofs.Common.{◌≡◌, ℕ, ◌+◌}
use Rattle.nor_serprog.proofs.WaitLemmas.{HasWaitedFor}
use Rattle.nor_serprog.proofs.follow.wait.Given as goal

abbrev pub invariant-loop-left : goal.invariant-loop-left
invariant-loop-left g l = record {
  busy : (turn : ℕ) × (turn + l.left ≡ l.fn.turns)
      × HasWaitedFor (g.W.ByteOut.held l.fn.to) (g.W.ByteOut.held l.to) (g.R.ByteIn.ahead l.fn.from) (g.R.ByteIn.ahead l.from) turn;
  reads : g.R.ByteIn.count l.from ≡ g.R.ByteIn.count l.fn.from;
  writes : g.W.ByteOut.count l.to ≡ g.W.ByteOut.count l.fn.to;
}

abbrev pub decreases-loop-left : goal.decreases-loop-left
decreases-loop-left g l = l.left
