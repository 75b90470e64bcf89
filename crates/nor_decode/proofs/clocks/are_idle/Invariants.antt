-- The symbols so far.
use Rattle.std.proofs.Common.{◌≡◌, take}
use Rattle.std.specs.List.{list_all}
use Rattle.nor_base.specs.Decoding.{is_idle}
use Rattle.nor_decode.proofs.clocks.are_idle.Given as goal

abbrev pub invariant-loop-symbol : goal.invariant-loop-symbol
invariant-loop-symbol l = l.all ≡ list_all is_idle (take l.symbol-index l.clocks)
