-- The sum so far.
use Rattle.std.proofs.Common.{◌≡◌, ◌%◌, sum, take}
use Rattle.nor_hex.proofs.written_record.checksum.Given as goal

abbrev pub invariant-loop-byte : goal.invariant-loop-byte
invariant-loop-byte l = l.sum ≡ sum (take l.byte-index l.bytes) % 256
