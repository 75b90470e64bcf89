-- The symbols so far.
use Rattle.std.proofs.Common.{◌≡◌, take}
use Rattle.std.specs.List.{list_all}
use Rattle.nor_base.specs.Decoding.{is_nibble_sampled}
use Rattle.nor_decode.proofs.clocks.are_nibbles_sampled.Given as goal

abbrev pub invariant-loop-symbol : goal.invariant-loop-symbol
invariant-loop-symbol l = l.all ≡ list_all is_nibble_sampled (take l.symbol-index l.clocks)
