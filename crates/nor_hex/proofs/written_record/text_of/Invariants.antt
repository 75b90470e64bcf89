-- The colon, and the bytes so far.
use Rattle.std.proofs.Common.{◌≡◌, ◌∷◌, ◌+◌, ◌*◌, take}
use Rattle.arrayvec.specs.ArrayVec.{array_vec_len}
use Rattle.hex.specs.Hex.{encode_upper}
use Rattle.nor_hex.proofs.written_record.text_of.Given as goal

abbrev pub invariant-loop-byte : goal.invariant-loop-byte
invariant-loop-byte l = record {
  spelled : l.text.items ≡ 0x3A ∷ encode_upper (take l.byte-index l.bytes);
  few : array_vec_len l.text ≡ 1 + 2 * l.byte-index;
}
