use Rattle.std.proofs.Common.{◌≡◌, take, true}
use Rattle.std.specs.List.{list_all}
use Rattle.std.specs.Char.{is_digit}
use Rattle.std.specs.Str.Parse.{digits_value}
use Rattle.nor_sfdp.proofs.map.number_of.Given as goal

-- the bytes so far are binary digits, of this value
abbrev pub invariant-loop-digit : goal.invariant-loop-digit
invariant-loop-digit l = record {
  digits : list_all (λ c. is_digit c 2) (take l.digit-index l.digits) ≡ true;
  value : l.number ≡ digits_value 2 (take l.digit-index l.digits);
}
