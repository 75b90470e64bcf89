-- The symbols so far.
use Rattle.std.proofs.Common.{◌≡◌, take}
use Rattle.std.specs.List.{list_all}
use Rattle.nor_base.specs.Sample.{is_symbol}
use Rattle.nor_script.proofs.line.are_symbols.Given as goal

abbrev pub invariant-loop-symbol : goal.invariant-loop-symbol
invariant-loop-symbol l = l.all ≡ list_all is_symbol (take l.symbol-index l.clocks)
