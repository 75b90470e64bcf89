-- The bytes past the end so far came.
use Rattle.std.proofs.Common.{◌≡◌, ◌≤◌, ◌-◌, ◌++◌, length, take}
use Rattle.nor_base.specs.Wire.{wire}
use Rattle.nor_reader.specs.Past.{past_end}
use Rattle.nor_reader.specs.Reads.{reads, HasReadOn}
use Rattle.nor_reader.proofs.past.read_past.Given as goal

abbrev pub invariant-loop-done : goal.invariant-loop-done
invariant-loop-done g l = record {
  within : l.done ≤ past_end l.by (length l.content);
  alike : HasReadOn (reads l.limits.asked l.by) (wire (g.W.ByteOut.held l.fn.to) (g.R.ByteIn.ahead l.fn.from))
      (wire (g.W.ByteOut.held l.to) (g.R.ByteIn.ahead l.from)) l.content (l.content ++ take l.done l.content);
  reads : g.R.ByteIn.count l.from ≡ g.R.ByteIn.count l.fn.from;
  writes : g.W.ByteOut.count l.to ≡ g.W.ByteOut.count l.fn.to;
}

abbrev pub decreases-loop-done : goal.decreases-loop-done
decreases-loop-done g l = past_end l.by (length l.content) - l.done
