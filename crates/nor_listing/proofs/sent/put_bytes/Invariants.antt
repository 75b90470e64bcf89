-- The digits of the first bytes are put.
use Rattle.std.proofs.Common.{◌-◌, ◌≡◌, ◌≤◌, take}
use Rattle.std.specs.Prelude.{flat_map}
use Rattle.std.specs.Io.KnownBytes.{Appends}
use Rattle.nor_base.specs.Decoding.{instruction}
use Rattle.nor_base.specs.Script.{hex_pair}
use Rattle.nor_decode.specs.Seen.{transaction_of}
use Rattle.nor_listing.proofs.sent.put_bytes.Given as goal

abbrev pub invariant-loop-done : goal.invariant-loop-done
invariant-loop-done g l = record {
  within : l.done ≤ l.len;
  put : Appends (g.W.ByteOut.held l.fn.out) (g.W.ByteOut.held l.out) (flat_map hex_pair (take l.done (instruction (transaction_of l.seen)).sent));
  count : g.W.ByteOut.count l.out ≡ g.W.ByteOut.count l.fn.out;
}

abbrev pub decreases-loop-done : goal.decreases-loop-done
decreases-loop-done g l = l.len - l.done
