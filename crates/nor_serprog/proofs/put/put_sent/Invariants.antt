-- The bytes so far are put.
use Rattle.std.proofs.Common.{◌-◌, ◌≡◌, ◌≤◌, length, take}
use Rattle.std.specs.Io.KnownBytes.{Appends}
use Rattle.nor_base.specs.Decoding.{bytes_of_bits}
use Rattle.nor_serprog.proofs.put.put_sent.Given as goal

abbrev pub invariant-loop-done : goal.invariant-loop-done
invariant-loop-done g l = record {
  within : l.done ≤ l.count;
  all : l.count ≡ length (bytes_of_bits l.bits);
  put : Appends (g.W.ByteOut.held l.fn.to) (g.W.ByteOut.held l.to) (take l.done (bytes_of_bits l.bits));
  count : g.W.ByteOut.count l.to ≡ g.W.ByteOut.count l.fn.to;
  room : length l.piece ≡ 256;
}

abbrev pub decreases-loop-done : goal.decreases-loop-done
decreases-loop-done g l = l.count - l.done
