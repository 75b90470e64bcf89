-- The bytes so far are kept.
use Rattle.std.proofs.Common.{◌≡◌, ◌++◌, take}
use Rattle.nor_base.specs.Decoding.{bytes_of_bits}
use Rattle.nor_flasher.proofs.kept.keep_sent.Given as goal

abbrev pub invariant-loop-place : goal.invariant-loop-place
invariant-loop-place l = l.bytes.items ≡ l.initial.bytes.items ++ take l.place (bytes_of_bits l.bits)
