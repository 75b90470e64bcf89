-- The first bytes are read and written, and the next ones begin a segment.
use Rattle.std.proofs.Common.{◌≡◌, ◌⊎◌, ◌-◌, ◌+◌, ◌%◌, ◌<◌, ◌≤◌, length}
use Rattle.nor_hex.specs.Converted.{WasRead}
use Rattle.nor_hex.proofs.converted.write_parts.Given as goal
use Rattle.nor_base.specs.Wire.{wire}

abbrev pub invariant-loop-done : goal.invariant-loop-done
invariant-loop-done g l = record {
  within : l.done ≤ l.len;
  seam : l.done < l.len → (l.done ≡ 0) ⊎ ((l.at + l.done) % 65536 ≡ 0);
  buffer : length l.buffer ≡ 65536;
  read : WasRead l.at l.done (wire (g.W.ByteOut.held l.fn.out) (g.R.ByteIn.ahead l.fn.bin)) (wire (g.W.ByteOut.held l.out) (g.R.ByteIn.ahead l.bin));
  reader : g.R.ByteIn.count l.bin ≡ g.R.ByteIn.count l.fn.bin;
  writer : g.W.ByteOut.count l.out ≡ g.W.ByteOut.count l.fn.out;
}

abbrev pub decreases-loop-done : goal.decreases-loop-done
decreases-loop-done g l = l.len - l.done
