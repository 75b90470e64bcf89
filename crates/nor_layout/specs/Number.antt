-- A number of a layout, as flashrom's manual page has it: hexadecimal, and `0x` isn't needed.
use Rattle.std.specs.Prelude.{ℕ, Bool, false, ◌&&◌, ◌||◌, ◌==◌, nat_le, if◌then◌else◌, Option, Some, None, List, [], ◌∷◌, length, drop}
use Rattle.std.specs.List.{list_all}
use Rattle.std.specs.Char.{is_digit}
use Rattle.std.specs.Str.Parse.{digits_value}

-- the text begins with `0x` or `0X`
abbrev pub has_prefix : List ℕ → Bool
has_prefix (zero_digit ∷ letter ∷ digits) = (zero_digit == 48) && ((letter == 120) || (letter == 88))
has_prefix fewer = false

-- what stands behind `0x` or `0X`, or all where neither does
abbrev pub digits_of : List ℕ → List ℕ
digits_of text = if has_prefix text then drop 2 text else text

-- 1 to 8 hexadecimal digits, of either case
abbrev pub are_digits : List ℕ → Bool
are_digits digits = nat_le 1 (length digits) && nat_le (length digits) 8 && list_all (λ c. is_digit c 16) digits

-- the value of the digits in base 16, the first digit the greatest in weight
abbrev pub number_of : List ℕ → Option ℕ
number_of text = if are_digits (digits_of text) then Some (digits_value 16 (digits_of text)) else None
