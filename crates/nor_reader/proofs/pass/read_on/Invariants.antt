-- The pieces so far were read, and the bytes before them stay.
use Rattle.std.proofs.Common.{◌≡◌, ◌≤◌, ◌-◌, length, take, drop}
use Rattle.nor_reader.proofs.CutLemmas.{IsCutTo}
use Rattle.nor_reader.proofs.pass.read_on.Given as goal

abbrev pub invariant-loop-done : goal.invariant-loop-done
invariant-loop-done g l = record {
  after : l.start ≤ l.done;
  within : l.done ≤ length l.bytes;
  size : length l.bytes ≡ l.size;
  kept : take l.start (take l.done l.bytes) ≡ take l.start l.fn.bytes;
  cut : IsCutTo l.limits.asked l.limits.asked l.limits.asked l.size l.done (g.W.ByteOut.held l.fn.to) (g.W.ByteOut.held l.to) (g.R.ByteIn.ahead l.fn.from)
      (g.R.ByteIn.ahead l.from) l.by l.start (drop l.start (take l.done l.bytes));
  reads : g.R.ByteIn.count l.from ≡ g.R.ByteIn.count l.fn.from;
  writes : g.W.ByteOut.count l.to ≡ g.W.ByteOut.count l.fn.to;
}

abbrev pub decreases-loop-done : goal.decreases-loop-done
decreases-loop-done g l = l.size - l.done
