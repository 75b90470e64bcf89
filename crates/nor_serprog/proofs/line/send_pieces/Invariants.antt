-- The pieces so far were sent.
use Rattle.std.proofs.Common.{◌≡◌, ◌+◌, ◌-◌}
use Rattle.nor_serprog.specs.Line.{all_values}
use Rattle.nor_serprog.proofs.LineLemmas.{AreSent}
use Rattle.nor_serprog.proofs.line.send_pieces.Given as goal

abbrev pub invariant-loop-done : goal.invariant-loop-done
invariant-loop-done g l = record {
  sent : AreSent (g.W.ByteOut.held l.fn.to) (g.W.ByteOut.held l.to) (g.R.ByteIn.ahead l.fn.from) (g.R.ByteIn.ahead l.from) (l.room + 1) l.done;
  values : l.values ≡ all_values;
  reads : g.R.ByteIn.count l.from ≡ g.R.ByteIn.count l.fn.from;
  writes : g.W.ByteOut.count l.to ≡ g.W.ByteOut.count l.fn.to;
}

abbrev pub decreases-loop-done : goal.decreases-loop-done
decreases-loop-done g l = 256 - l.done
