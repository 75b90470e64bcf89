-- So many bytes came, and are compared.
use Rattle.std.proofs.Common.{◌≡◌, ◌-◌, length}
use Rattle.nor_serprog.proofs.ExchangeLemmas.{HasCompared}
use Rattle.nor_serprog.proofs.exchange.compared.Given as goal

abbrev pub invariant-loop-done : goal.invariant-loop-done
invariant-loop-done g l = record {
  so_far : HasCompared (g.R.ByteIn.ahead l.fn.from) (g.R.ByteIn.ahead l.from) l.want l.done l.found;
  count : g.R.ByteIn.count l.from ≡ g.R.ByteIn.count l.fn.from;
  room : length l.piece ≡ 256;
}

abbrev pub decreases-loop-done : goal.decreases-loop-done
decreases-loop-done g l = length l.want - l.done
