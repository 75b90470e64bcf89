use Rattle.std.proofs.Common.{◌≡◌, ◌%◌, sum, take}
use Rattle.nor_hex.specs.Record.{pair_bytes}
use Rattle.nor_hex.proofs.digits.decode.Given as goal

abbrev pub invariant-loop-i : goal.invariant-loop-i
invariant-loop-i l = record { summed : l.sum ≡ sum (take l.i (pair_bytes l.digits)) % 256; decoded : take l.i l.bytes ≡ take l.i (pair_bytes l.digits) }
