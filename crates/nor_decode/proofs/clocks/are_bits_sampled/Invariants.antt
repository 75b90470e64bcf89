-- The symbols so far.
use Rattle.std.proofs.Common.{◌≡◌, take}
use Rattle.std.specs.List.{list_all}
use Rattle.nor_base.specs.Decoding.{is_bit_sampled}
use Rattle.nor_decode.proofs.clocks.are_bits_sampled.Given as goal

abbrev pub invariant-loop-symbol : goal.invariant-loop-symbol
invariant-loop-symbol l = l.all ≡ list_all is_bit_sampled (take l.symbol-index l.clocks)
