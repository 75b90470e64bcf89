-- What std's parsers of digits answer, as the forms of values say it.
use Rattle.std.proofs.Common.{◌≡◌, ◌≢◌, ℕ, ◌<◌, ◌≤◌, ◌^◌, Bool, true, false, ◌&&◌, ◌==◌, List, [], ◌∷◌, length, Some, None, Err, slice_index, refl, sym, ap, ◌∙◌, subst, arith}
use Rattle.std.specs.Prelude.{nat_lt, if◌then◌else◌}
use Rattle.std.proofs.Math.Nat.{pow-le-pow_right}
use Rattle.std.proofs.lemmas.Bool.{ltb-true, lt-ltb, eqb-false, and_parts, and_from, false_from_ne_true}
use Rattle.std.proofs.lemmas.Str.Parse.{without_leading_plus_none}
use Rattle.std.proofs.lemmas.Int.Digits.{digits_value-lt}
use Rattle.std.specs.List.{list_all}
use Rattle.std.specs.Char.{is_digit, digit_value}
use Rattle.std.specs.Str.Parse.{AllDigits, IsNumeral, ParsesUnsigned, digits_value, without_leading_plus}
use Rattle.norprog_common.specs.Values.{are_digits, decimal_of, hexadecimal_of, limit_of}

pub digits_all : (radix : ℕ) (text : List ℕ) → AllDigits radix text → list_all (λ c. is_digit c radix) text ≡ true
digits_all radix [] each = refl
digits_all radix (c ∷ text) each =
    and_from (is_digit c radix) (list_all (λ c. is_digit c radix) text) (lt-ltb (digit_value c) radix each.0) (digits_all radix text each.1)

pub all_digits : (radix : ℕ) (text : List ℕ) → list_all (λ c. is_digit c radix) text ≡ true → AllDigits radix text
all_digits radix [] each = tt
all_digits radix (c ∷ text) each =
    let both = and_parts (is_digit c radix) (list_all (λ c. is_digit c radix) text) each in
    (ltb-true (digit_value c) radix both.0, all_digits radix text both.1)

pub numeral_digits : (radix : ℕ) (text : List ℕ) → IsNumeral radix text → are_digits radix text ≡ true
numeral_digits radix text is =
    and_from (nat_lt 0 (length text)) (list_all (λ c. is_digit c radix) text) (lt-ltb 0 (length text) is.0) (digits_all radix text is.1)

pub digits_numeral : (radix : ℕ) (text : List ℕ) → are_digits radix text ≡ true → IsNumeral radix text
digits_numeral radix text is =
    let both = and_parts (nat_lt 0 (length text)) (list_all (λ c. is_digit c radix) text) is in
    (ltb-true 0 (length text) both.0, all_digits radix text both.1)

-- std's parsers take a plus; without one they read the whole text
pub without_plus : (text : List ℕ) → (slice_index text 0 == 43) ≡ false → without_leading_plus text ≡ text
without_plus text plain = without_leading_plus_none text (eqb-false (slice_index text 0) 43 plain)

pub decimal_read : (text : List ℕ) (n : ℕ) → (slice_index text 0 == 43) ≡ false
    → (IsNumeral 10 (without_leading_plus text) × (digits_value 10 (without_leading_plus text) < 2 ^ 32)) × (n ≡ digits_value 10 (without_leading_plus text))
    → Some n ≡ decimal_of text
decimal_read text n plain parses =
    let read : (IsNumeral 10 text × (digits_value 10 text < 2 ^ 32)) × (n ≡ digits_value 10 text) =
    subst (λ (t : List ℕ). (IsNumeral 10 t × (digits_value 10 t < 2 ^ 32)) × (n ≡ digits_value 10 t)) (without_plus text plain) parses in
    let both : (are_digits 10 text && nat_lt (digits_value 10 text) (2 ^ 32)) ≡ true =
    and_from (are_digits 10 text) (nat_lt (digits_value 10 text) (2 ^ 32)) (numeral_digits 10 text read.0.0) (lt-ltb (digits_value 10 text) (2 ^ 32) read.0.1) in
    ap Some read.1 ∙ sym (ap (λ (b : Bool). if b then Some (digits_value 10 text) else None) both)

pub decimal_refused : {E : Type 0} (text : List ℕ) (e : E) → (slice_index text 0 == 43) ≡ false → ParsesUnsigned {E = E} 32 10 text (Err e)
    → None ≡ decimal_of text
decimal_refused text e plain parses =
    let refused : ¬ (IsNumeral 10 text × (digits_value 10 text < 2 ^ 32)) =
    subst (λ (t : List ℕ). ¬ (IsNumeral 10 t × (digits_value 10 t < 2 ^ 32))) (without_plus text plain) parses in
    let fails : (are_digits 10 text && nat_lt (digits_value 10 text) (2 ^ 32)) ≡ false =
    false_from_ne_true (are_digits 10 text && nat_lt (digits_value 10 text) (2 ^ 32))
    (λ both. let parts = and_parts (are_digits 10 text) (nat_lt (digits_value 10 text) (2 ^ 32)) both in
    refused (digits_numeral 10 text parts.0, ltb-true (digits_value 10 text) (2 ^ 32) parts.1)) in
    sym (ap (λ (b : Bool). if b then Some (digits_value 10 text) else None) fails)

pub hexadecimal_read : (text : List ℕ) (n : ℕ) → (slice_index text 0 == 43) ≡ false
    → (IsNumeral 16 (without_leading_plus text) × (digits_value 16 (without_leading_plus text) < 2 ^ 32)) × (n ≡ digits_value 16 (without_leading_plus text))
    → Some n ≡ hexadecimal_of text
hexadecimal_read text n plain parses =
    let read : (IsNumeral 16 text × (digits_value 16 text < 2 ^ 32)) × (n ≡ digits_value 16 text) =
    subst (λ (t : List ℕ). (IsNumeral 16 t × (digits_value 16 t < 2 ^ 32)) × (n ≡ digits_value 16 t)) (without_plus text plain) parses in
    ap Some read.1 ∙ sym (ap (λ (b : Bool). if b then Some (digits_value 16 text) else None) (numeral_digits 16 text read.0.0))

-- 8 hexadecimal digits or less have a value of 32 bits
pub value_fits : (text : List ℕ) → AllDigits 16 text → length text ≤ 8 → digits_value 16 text < 2 ^ 32
value_fits text each few =
    let below : digits_value 16 text < 16 ^ length text = digits_value-lt 16 text each in
    let power : 16 ^ length text ≤ 16 ^ 8 = pow-le-pow_right (omega arith) {i = length text} {j = 8} few in
    omega arith

pub hexadecimal_refused : {E : Type 0} (text : List ℕ) (e : E) → (slice_index text 0 == 43) ≡ false → length text ≤ 8
    → ParsesUnsigned {E = E} 32 16 text (Err e) → None ≡ hexadecimal_of text
hexadecimal_refused text e plain few parses =
    let refused : ¬ (IsNumeral 16 text × (digits_value 16 text < 2 ^ 32)) =
    subst (λ (t : List ℕ). ¬ (IsNumeral 16 t × (digits_value 16 t < 2 ^ 32))) (without_plus text plain) parses in
    let fails : are_digits 16 text ≡ false =
    false_from_ne_true (are_digits 16 text) (λ is. let numeral = digits_numeral 16 text is in refused (numeral, value_fits text numeral.1 few)) in
    sym (ap (λ (b : Bool). if b then Some (digits_value 16 text) else None) fails)

-- the test of a limit
abbrev is_limit : List ℕ → Bool
is_limit text = are_digits 10 text && (nat_lt 0 (digits_value 10 text) && nat_lt (digits_value 10 text) (2 ^ 64))

limit_is : (text : List ℕ) → is_limit text ≡ true → limit_of text ≡ Some (digits_value 10 text)
limit_is text passes = ap (λ (b : Bool). if b then Some (digits_value 10 text) else None) passes

limit_is_none : (text : List ℕ) → is_limit text ≡ false → limit_of text ≡ None
limit_is_none text fails = ap (λ (b : Bool). if b then Some (digits_value 10 text) else None) fails

limit_parts : (text : List ℕ) → is_limit text ≡ true → (are_digits 10 text ≡ true) × (0 < digits_value 10 text) × (digits_value 10 text < 2 ^ 64)
limit_parts text passes =
    let first = and_parts (are_digits 10 text) (nat_lt 0 (digits_value 10 text) && nat_lt (digits_value 10 text) (2 ^ 64)) passes in
    let second = and_parts (nat_lt 0 (digits_value 10 text)) (nat_lt (digits_value 10 text) (2 ^ 64)) first.1 in
    (first.0, ltb-true 0 (digits_value 10 text) second.0, ltb-true (digits_value 10 text) (2 ^ 64) second.1)

-- a number of 64 bits without a plus
whole_read : (text : List ℕ) (n : ℕ) → (slice_index text 0 == 43) ≡ false
    → (IsNumeral 10 (without_leading_plus text) × (digits_value 10 (without_leading_plus text) < 2 ^ 64)) × (n ≡ digits_value 10 (without_leading_plus text))
    → (IsNumeral 10 text × (digits_value 10 text < 2 ^ 64)) × (n ≡ digits_value 10 text)
whole_read text n plain parses =
    subst (λ (t : List ℕ). (IsNumeral 10 t × (digits_value 10 t < 2 ^ 64)) × (n ≡ digits_value 10 t)) (without_plus text plain) parses

pub limit_read : (text : List ℕ) (n : ℕ) → (slice_index text 0 == 43) ≡ false → n ≢ 0
    → (IsNumeral 10 (without_leading_plus text) × (digits_value 10 (without_leading_plus text) < 2 ^ 64)) × (n ≡ digits_value 10 (without_leading_plus text))
    → Some n ≡ limit_of text
limit_read text n plain some parses =
    let is = whole_read text n plain parses in
    let positive : 0 < digits_value 10 text = omega (arith, is.1, some) in
    ap Some is.1 ∙ sym (limit_is text (and_from (are_digits 10 text) (nat_lt 0 (digits_value 10 text) && nat_lt (digits_value 10 text) (2 ^ 64))
    (numeral_digits 10 text is.0.0)
    (and_from (nat_lt 0 (digits_value 10 text)) (nat_lt (digits_value 10 text) (2 ^ 64)) (lt-ltb 0 (digits_value 10 text) positive)
    (lt-ltb (digits_value 10 text) (2 ^ 64) is.0.1))))

pub limit_zero : (text : List ℕ) (n : ℕ) → (slice_index text 0 == 43) ≡ false → n ≡ 0
    → (IsNumeral 10 (without_leading_plus text) × (digits_value 10 (without_leading_plus text) < 2 ^ 64)) × (n ≡ digits_value 10 (without_leading_plus text))
    → None ≡ limit_of text
limit_zero text n plain none parses =
    let is = whole_read text n plain parses in
    sym (limit_is_none text (false_from_ne_true (is_limit text) (λ passes.
    let parts = limit_parts text passes in
    let more : 0 < digits_value 10 text = parts.1 in
    absurd (omega (arith, more, is.1, none)))))

pub limit_refused : {E : Type 0} (text : List ℕ) (e : E) → (slice_index text 0 == 43) ≡ false → ParsesUnsigned {E = E} 64 10 text (Err e)
    → None ≡ limit_of text
limit_refused text e plain parses =
    let refused : ¬ (IsNumeral 10 text × (digits_value 10 text < 2 ^ 64)) =
    subst (λ (t : List ℕ). ¬ (IsNumeral 10 t × (digits_value 10 t < 2 ^ 64))) (without_plus text plain) parses in
    sym (limit_is_none text (false_from_ne_true (is_limit text) (λ passes.
    let parts = limit_parts text passes in
    refused (digits_numeral 10 text parts.0, parts.2))))
