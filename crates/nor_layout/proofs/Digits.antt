-- The value of a few hexadecimal digits.
use Rattle.std.proofs.Common.{◌≡◌, ℕ, ◌<◌, ◌≤◌, ◌^◌, true, List, [], ◌∷◌, length, take, refl, arith}
use Rattle.std.proofs.Math.Nat.{pow-le-pow_right}
use Rattle.std.proofs.lemmas.Bool.{and_parts, ltb-true}
use Rattle.std.proofs.lemmas.List.{length-take}
use Rattle.std.proofs.lemmas.Int.Digits.{digits_value-lt}
use Rattle.std.specs.List.{list_all}
use Rattle.std.specs.Char.{is_digit, digit_value}
use Rattle.std.specs.Str.Parse.{AllDigits, digits_value}

all_digits : (digits : List ℕ) → list_all (λ c. is_digit c 16) digits ≡ true → AllDigits 16 digits
all_digits [] each = tt
all_digits (c ∷ digits) each =
    let both = and_parts (is_digit c 16) (list_all (λ c. is_digit c 16) digits) each in
    (ltb-true (digit_value c) 16 both.0, all_digits digits both.1)

-- less than 8 digits have a value of less than 28 bits
pub digits_fit : (digits : List ℕ) (i : ℕ) → i < 8 → list_all (λ c. is_digit c 16) (take i digits) ≡ true → digits_value 16 (take i digits) < 2 ^ 28
digits_fit digits i few each =
    let below : digits_value 16 (take i digits) < 16 ^ length (take i digits) = digits_value-lt 16 (take i digits) (all_digits (take i digits) each) in
    let short : length (take i digits) ≤ 7 = omega (arith, length-take i digits) in
    let power : 16 ^ length (take i digits) ≤ 16 ^ 7 = pow-le-pow_right (omega arith) {i = length (take i digits)} {j = 7} short in
    omega arith

-- 8 digits or less have a value of 32 bits
pub value_fits : (digits : List ℕ) → list_all (λ c. is_digit c 16) digits ≡ true → length digits ≤ 8 → digits_value 16 digits < 2 ^ 32
value_fits digits each few =
    let below : digits_value 16 digits < 16 ^ length digits = digits_value-lt 16 digits (all_digits digits each) in
    let power : 16 ^ length digits ≤ 16 ^ 8 = pow-le-pow_right (omega arith) {i = length digits} {j = 8} few in
    omega arith
