-- The sum is the number of the bits so far.
use Rattle.std.proofs.Common.{◌≡◌, take}
use Rattle.nor_base.specs.Decoding.{number}
use Rattle.nor_decode.proofs.clocks.number.Given as goal

abbrev pub invariant-loop-symbol : goal.invariant-loop-symbol
invariant-loop-symbol l = l.sum ≡ number (take l.symbol-index l.bits)
