-- The records of the first bytes are put, and the next ones begin a segment.
use Rattle.std.proofs.Common.{◌≡◌, ◌-◌, ◌<◌, ◌≤◌, length, take}
use Rattle.std.specs.Io.KnownBytes.{Appends}
use Rattle.nor_hex.specs.WrittenSegments.{image_records, text_of}
use Rattle.nor_hex.proofs.WriteLemmas.{IsSeam}
use Rattle.nor_hex.proofs.writer.write_hex.Given as goal

abbrev pub invariant-loop-done : goal.invariant-loop-done
invariant-loop-done g l = record {
  within : l.done ≤ length l.bytes;
  seam : l.done < length l.bytes → IsSeam l.at l.done;
  put : Appends (g.W.ByteOut.held l.fn.out) (g.W.ByteOut.held l.out) (text_of (image_records l.at (take l.done l.bytes)));
  count : g.W.ByteOut.count l.out ≡ g.W.ByteOut.count l.fn.out;
}

abbrev pub decreases-loop-done : goal.decreases-loop-done
decreases-loop-done g l = length l.bytes - l.done
