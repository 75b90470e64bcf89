-- The bytes so far are spelled, and each is a byte.
use Rattle.std.proofs.Common.{◌≡◌, ◌*◌, true, take}
use Rattle.std.specs.Prelude.{flat_map}
use Rattle.nor_base.specs.Array.{are_bytes}
use Rattle.nor_base.specs.Script.{hex_pair}
use Rattle.nor_script.proofs.hexadecimal.decode_pairs.Given as goal

abbrev pub invariant-loop-i : goal.invariant-loop-i
invariant-loop-i l = (flat_map hex_pair (take l.i l.bytes) ≡ take (2 * l.i) l.digits) × (are_bytes (take l.i l.bytes) ≡ true)
