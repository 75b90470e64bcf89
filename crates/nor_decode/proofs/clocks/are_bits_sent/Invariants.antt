-- The symbols so far.
use Rattle.std.proofs.Common.{◌≡◌, take}
use Rattle.std.specs.List.{list_all}
use Rattle.nor_base.specs.Decoding.{is_bit_sent}
use Rattle.nor_decode.proofs.clocks.are_bits_sent.Given as goal

abbrev pub invariant-loop-symbol : goal.invariant-loop-symbol
invariant-loop-symbol l = l.all ≡ list_all is_bit_sent (take l.symbol-index l.clocks)
