-- The steps so far were done.
use Rattle.std.proofs.Common.{◌≡◌, take}
use Rattle.nor_base.specs.Wire.{wire}
use Rattle.nor_serprog.specs.Done.{HasDoneAll}
use Rattle.nor_serprog.proofs.row.do_each.Given as goal

abbrev pub invariant-loop-step : goal.invariant-loop-step
invariant-loop-step g l = record {
  does : HasDoneAll (wire (g.W.ByteOut.held l.fn.to) (g.R.ByteIn.ahead l.fn.from)) (wire (g.W.ByteOut.held l.to) (g.R.ByteIn.ahead l.from)) l.limits l.turns
      (take l.step-index l.row);
  reads : g.R.ByteIn.count l.from ≡ g.R.ByteIn.count l.fn.from;
  writes : g.W.ByteOut.count l.to ≡ g.W.ByteOut.count l.fn.to;
  number : l.number ≡ l.step-index;
}
