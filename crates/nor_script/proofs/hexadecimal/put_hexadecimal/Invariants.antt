-- The digits of the first bytes are put.
use Rattle.std.proofs.Common.{◌-◌, ◌≡◌, ◌≤◌, length, take}
use Rattle.std.specs.Prelude.{flat_map}
use Rattle.std.specs.Io.KnownBytes.{Appends}
use Rattle.nor_base.specs.Script.{hex_pair}
use Rattle.nor_script.proofs.hexadecimal.put_hexadecimal.Given as goal

abbrev pub invariant-loop-done : goal.invariant-loop-done
invariant-loop-done g l = record {
  within : l.done ≤ length l.bytes;
  put : Appends (g.W.ByteOut.held l.fn.out) (g.W.ByteOut.held l.out) (flat_map hex_pair (take l.done l.bytes));
  count : g.W.ByteOut.count l.out ≡ g.W.ByteOut.count l.fn.out;
}

abbrev pub decreases-loop-done : goal.decreases-loop-done
decreases-loop-done g l = length l.bytes - l.done
