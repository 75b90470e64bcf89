-- The parts of a log's line (this project's).
use Rattle.std.specs.Prelude.{ℕ, ◌+◌, ◌-◌, ◌*◌, ◌^◌, ◌&&◌, nat_lt, Bool, if◌then◌else◌, List, [], ◌∷◌, length, take, drop, codes, Option, None, Some, option_map}
use Rattle.std.specs.Char.{is_digit, digit_value}
use Rattle.std.specs.List.{list_all}
use Rattle.std.specs.Str.{bytes_eq}
use Rattle.std.specs.Str.Parse.{digits_value}
use Rattle.nor_base.specs.Array.{is_filled}
use Rattle.nor_lines.specs.Lines.{is_blank, trimmed, without_first_blanks}

-- a text without the blanks at its ends
abbrev pub bare : List ℕ → List ℕ
bare text = trimmed (without_first_blanks text)

-- the byte of two hexadecimal digits of either case, the high one first
abbrev pub byte_of : ℕ → ℕ → Option ℕ
byte_of high low = if is_digit high 16 && is_digit low 16 then Some (digit_value high * 16 + digit_value low) else None

-- the byte of the two digits that a text begins with, and what is after them
abbrev pub pair_on : List ℕ → Option (ℕ × List ℕ)
pair_on [] = None
pair_on (high ∷ []) = None
pair_on (high ∷ low ∷ more) = option_map (λ byte. (byte, more)) (byte_of high low)

-- a byte, where there is one, and then others, where there are some
abbrev pub before_all : Option (List ℕ) → Option ℕ → Option (List ℕ)
before_all others None = None
before_all others (Some byte) = option_map (λ bytes. byte ∷ bytes) others

-- the bytes that pairs of digits spell; blanks may be between pairs, and nothing else
abbrev pub bytes_of : List ℕ → Option (List ℕ)
bytes_of [] = Some []
bytes_of (c ∷ []) = if is_blank c then Some [] else None
bytes_of (c ∷ d ∷ rest) = if is_blank c then bytes_of (d ∷ rest) else before_all (bytes_of rest) (byte_of c d)

-- the value of decimal digits, where it has 32 bits
abbrev pub value_of : List ℕ → Option ℕ
value_of digits =
    if list_all (λ c. is_digit c 10) digits && nat_lt (digits_value 10 digits) (2 ^ 32) then Some (digits_value 10 digits) else None

-- the same, of which there are some
abbrev pub decimal_of : List ℕ → Option ℕ
decimal_of digits = if is_filled digits then value_of digits else None

-- a bare text that ends with `bytes`
abbrev pub is_count : List ℕ → Bool
is_count text = bytes_eq (drop (length text - 5) text) (codes "bytes")

-- `N bytes`: how many
abbrev pub count_of : List ℕ → Option ℕ
count_of text = if is_count text then decimal_of (bare (take (length text - 5) text)) else None
