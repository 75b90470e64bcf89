-- The numbers of a sheet (this project's).
use Rattle.std.specs.Prelude.{ℕ, Bool, ◌+◌, ◌*◌, ◌&&◌, nat_le, if◌then◌else◌, Option, Some, None, List, [], ◌∷◌, length}
use Rattle.std.specs.List.{list_all}
use Rattle.std.specs.Char.{is_digit, digit_value}
use Rattle.std.specs.Str.Parse.{digits_value}
use Rattle.nor_base.specs.Array.{is_filled}

-- 1 to 9 decimal digits
abbrev pub are_digits : List ℕ → Bool
are_digits word = is_filled word && (nat_le (length word) 9 && list_all (λ c. is_digit c 10) word)

abbrev pub number_of : List ℕ → Option ℕ
number_of word = if are_digits word then Some (digits_value 10 word) else None

-- the byte of two hexadecimal digits of either case, the high one first
abbrev pub pair_of : ℕ → ℕ → Option ℕ
pair_of high low = if is_digit high 16 && is_digit low 16 then Some (digit_value high * 16 + digit_value low) else None

abbrev pub byte_of : List ℕ → Option ℕ
byte_of (high ∷ low ∷ []) = pair_of high low
byte_of word = None
