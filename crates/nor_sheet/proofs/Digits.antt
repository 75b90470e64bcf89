-- The value of a few decimal digits.
use Rattle.std.proofs.Common.{◌≡◌, ℕ, ◌<◌, ◌≤◌, ◌^◌, true, List, [], ◌∷◌, length, take, arith}
use Rattle.std.proofs.Math.Nat.{pow-le-pow_right}
use Rattle.std.proofs.lemmas.Bool.{and_parts, ltb-true}
use Rattle.std.proofs.lemmas.List.{length-take}
use Rattle.std.proofs.lemmas.Int.Digits.{digits_value-lt}
use Rattle.std.specs.List.{list_all}
use Rattle.std.specs.Char.{is_digit, digit_value}
use Rattle.std.specs.Str.Parse.{AllDigits, digits_value}

all_digits : (digits : List ℕ) → list_all (λ c. is_digit c 10) digits ≡ true → AllDigits 10 digits
all_digits [] each = tt
all_digits (c ∷ digits) each =
    let both = and_parts (is_digit c 10) (list_all (λ c. is_digit c 10) digits) each in
    (ltb-true (digit_value c) 10 both.0, all_digits digits both.1)

-- less than 9 digits have a value below 10 ^ 8
pub digits_fit : (digits : List ℕ) (i : ℕ) → i < 9 → list_all (λ c. is_digit c 10) (take i digits) ≡ true → digits_value 10 (take i digits) < 10 ^ 8
digits_fit digits i few each =
    let below : digits_value 10 (take i digits) < 10 ^ length (take i digits) = digits_value-lt 10 (take i digits) (all_digits (take i digits) each) in
    let short : length (take i digits) ≤ 8 = omega (arith, length-take i digits) in
    let power : 10 ^ length (take i digits) ≤ 10 ^ 8 = pow-le-pow_right (omega arith) {i = length (take i digits)} {j = 8} short in
    omega arith
