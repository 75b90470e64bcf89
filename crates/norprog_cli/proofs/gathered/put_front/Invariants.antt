-- What was put so far is the front of the bytes.
use Rattle.std.proofs.Common.{◌-◌, ◌≡◌, ◌≤◌, length, take}
use Rattle.std.specs.Io.KnownBytes.{Appends}
use Rattle.norprog_cli.proofs.gathered.put_front.Given as goal

abbrev pub invariant-loop-done : goal.invariant-loop-done
invariant-loop-done g l = record {
  within : l.done ≤ length l.bytes;
  put : Appends (g.W.ByteOut.held l.fn.out) (g.W.ByteOut.held l.out) (take l.done l.bytes);
  count : g.W.ByteOut.count l.out ≡ g.W.ByteOut.count l.fn.out;
}

abbrev pub decreases-loop-done : goal.decreases-loop-done
decreases-loop-done g l = length l.bytes - l.done
