-- No word has come so far.
use Rattle.std.proofs.Common.{◌≡◌}
use Rattle.nor_serprog.proofs.WordLemmas.{IsListening}
use Rattle.nor_serprog.proofs.word.find_word.Given as goal

abbrev pub invariant-loop : goal.invariant-loop
invariant-loop g l = record {
  listening : IsListening (g.W.ByteOut.held l.fn.to) (g.W.ByteOut.held l.to) (g.R.ByteIn.ahead l.fn.from) (g.R.ByteIn.ahead l.from) l.tries l.last l.counter;
  reads : g.R.ByteIn.count l.from ≡ g.R.ByteIn.count l.fn.from;
  writes : g.W.ByteOut.count l.to ≡ g.W.ByteOut.count l.fn.to;
}
