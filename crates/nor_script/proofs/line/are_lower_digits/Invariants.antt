-- The digits so far.
use Rattle.std.proofs.Common.{◌≡◌, take}
use Rattle.std.specs.List.{list_all}
use Rattle.nor_script.specs.Line.{is_lower_digit}
use Rattle.nor_script.proofs.line.are_lower_digits.Given as goal

abbrev pub invariant-loop-digit : goal.invariant-loop-digit
invariant-loop-digit l = l.all ≡ list_all is_lower_digit (take l.digit-index l.digits)
