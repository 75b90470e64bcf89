use Rattle.std.proofs.Common.{◌≡◌, take, true}
use Rattle.std.specs.List.{list_all}
use Rattle.std.specs.Char.{is_digit}
use Rattle.std.specs.Str.Parse.{digits_value}
use Rattle.nor_sheet.proofs.number.value_of.Given as goal

-- the bytes so far are digits, of this value
abbrev pub invariant-loop-byte : goal.invariant-loop-byte
invariant-loop-byte l = record {
  digits : list_all (λ c. is_digit c 10) (take l.byte-index l.digits) ≡ true;
  value : l.value ≡ digits_value 10 (take l.byte-index l.digits);
}
