-- The fields, and the data so far.
use Rattle.std.proofs.Common.{◌≡◌, ◌/◌, ◌%◌, ◌∷◌, length, take}
use Rattle.nor_hex.proofs.written_record.fields_of.Given as goal

abbrev pub invariant-loop-byte : goal.invariant-loop-byte
invariant-loop-byte l = l.bytes.items ≡ length l.data ∷ l.offset / 256 ∷ l.offset % 256 ∷ l.kind ∷ take l.byte-index l.data
