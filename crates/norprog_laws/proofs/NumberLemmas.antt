-- Printed numbers are read back.
use Rattle.std.proofs.Common.{◌≡◌, ◌∙◌, ℕ, zero, suc, ◌+◌, ◌-◌, ◌*◌, ◌/◌, ◌%◌, ◌^◌, ◌<◌, Bool, true, false, cond, List, [], ◌∷◌, length, Option, Some, None, refl, ap, arith}
use Rattle.std.specs.Prelude.{IfSome, codes, decimal, option_map, nat_lt, ◌==◌, ◌&&◌, if◌then◌else◌}
use Rattle.std.specs.List.{list_all}
use Rattle.std.specs.Char.{is_digit, digit_value}
use Rattle.std.specs.Str.{bytes_eq}
use Rattle.std.specs.Str.Parse.{AllDigits, digits_value}
use Rattle.std.proofs.lemmas.Bool.{lt-ltb, le-leb, ltb-false}
use Rattle.std.proofs.lemmas.Fmt.{decimal_is_IsNumeral, length-decimal-le}
use Rattle.nor_base.specs.Array.{is_filled}
use Rattle.nor_sheet.specs.Number.{are_digits, number_of, byte_of}
use Rattle.nor_sheet.specs.Said.{op4_of}
use Rattle.norprog.specs.ChipText.{hex_digit, hex_byte, op4_text}
use Rattle.norprog_laws.proofs.SpacedLemmas.{is_plain}

long_filled : (word : List ℕ) → 0 < length word → is_filled word ≡ true
long_filled [] some = absurd (omega (arith, some))
long_filled (c ∷ word) some = refl

high_digit : (c : ℕ) → digit_value c < 10 → nat_lt 35 c ≡ true
high_digit c small = by_low (nat_lt c 48) refl where
  by_low : (b : Bool) → nat_lt c 48 ≡ b → nat_lt 35 c ≡ true
  by_low true e =
      let value : digit_value c ≡ 36 = ap (λ b. cond b 36 (cond (nat_lt c 58) (c - 48) (cond (nat_lt c 65) 36 (cond (nat_lt c 91) (c - 55) (cond (nat_lt c 97) 36 (cond (nat_lt c 123) (c - 87) 36)))))) e in
      absurd (omega (arith, small, value))
  by_low false e = lt-ltb 35 c (omega (arith, ltb-false c 48 e))

plain_digits : (digits : List ℕ) → AllDigits 10 digits → list_all (nat_lt 35) digits ≡ true
plain_digits [] all = refl
plain_digits (c ∷ digits) all = rw (high_digit c all.0) (plain_digits digits all.1)

each_digit : (digits : List ℕ) → AllDigits 10 digits → list_all (λ c. is_digit c 10) digits ≡ true
each_digit [] all = refl
each_digit (c ∷ digits) all = rw (lt-ltb (digit_value c) 10 all.0) (each_digit digits all.1)

pub decimal_plain : (n : ℕ) → n < 2 ^ 64 → is_plain (decimal n) ≡ true
decimal_plain n small =
    let is = (decimal_is_IsNumeral n small).0 in
    rw (long_filled (decimal n) is.0, plain_digits (decimal n) is.1) refl

pub number_back : (n : ℕ) → n < 10 ^ 9 → number_of (decimal n) ≡ Some n
number_back n small =
    let wide : n < 2 ^ 64 = omega (arith, small) in
    let is = decimal_is_IsNumeral n wide in
    let are : are_digits (decimal n) ≡ true =
    rw (long_filled (decimal n) is.0.0, le-leb (length (decimal n)) 9 (length-decimal-le 9 n (omega arith) small wide), each_digit (decimal n) is.0.1) refl in
    ap (λ b. if b then Some (digits_value 10 (decimal n)) else None) are ∙ ap Some is.1

-- what holds of a hexadecimal digit
pub record IsHexDigit (n : ℕ) : Type 0 where
  pub digit : is_digit (hex_digit n) 16 ≡ true
  pub value : digit_value (hex_digit n) ≡ n
  pub plain : nat_lt 35 (hex_digit n) ≡ true
  pub other : (hex_digit n == 45) ≡ false

hex_is : (n : ℕ) → n < 16 → IsHexDigit n
hex_is zero small = record { digit = refl; value = refl; plain = refl; other = refl }
hex_is (suc zero) small = record { digit = refl; value = refl; plain = refl; other = refl }
hex_is (suc (suc zero)) small = record { digit = refl; value = refl; plain = refl; other = refl }
hex_is (suc (suc (suc zero))) small = record { digit = refl; value = refl; plain = refl; other = refl }
hex_is (suc (suc (suc (suc zero)))) small = record { digit = refl; value = refl; plain = refl; other = refl }
hex_is (suc (suc (suc (suc (suc zero))))) small = record { digit = refl; value = refl; plain = refl; other = refl }
hex_is (suc (suc (suc (suc (suc (suc zero)))))) small = record { digit = refl; value = refl; plain = refl; other = refl }
hex_is (suc (suc (suc (suc (suc (suc (suc zero))))))) small = record { digit = refl; value = refl; plain = refl; other = refl }
hex_is (suc (suc (suc (suc (suc (suc (suc (suc zero)))))))) small = record { digit = refl; value = refl; plain = refl; other = refl }
hex_is (suc (suc (suc (suc (suc (suc (suc (suc (suc zero))))))))) small = record { digit = refl; value = refl; plain = refl; other = refl }
hex_is (suc (suc (suc (suc (suc (suc (suc (suc (suc (suc zero)))))))))) small = record { digit = refl; value = refl; plain = refl; other = refl }
hex_is (suc (suc (suc (suc (suc (suc (suc (suc (suc (suc (suc zero))))))))))) small = record { digit = refl; value = refl; plain = refl; other = refl }
hex_is (suc (suc (suc (suc (suc (suc (suc (suc (suc (suc (suc (suc zero)))))))))))) small = record { digit = refl; value = refl; plain = refl; other = refl }
hex_is (suc (suc (suc (suc (suc (suc (suc (suc (suc (suc (suc (suc (suc zero))))))))))))) small = record { digit = refl; value = refl; plain = refl; other = refl }
hex_is (suc (suc (suc (suc (suc (suc (suc (suc (suc (suc (suc (suc (suc (suc zero)))))))))))))) small = record { digit = refl; value = refl; plain = refl; other = refl }
hex_is (suc (suc (suc (suc (suc (suc (suc (suc (suc (suc (suc (suc (suc (suc (suc zero))))))))))))))) small = record { digit = refl; value = refl; plain = refl; other = refl }
hex_is (suc (suc (suc (suc (suc (suc (suc (suc (suc (suc (suc (suc (suc (suc (suc (suc n)))))))))))))))) small = absurd (omega (arith, small))

pub byte_back : (b : ℕ) → b < 256 → byte_of (hex_byte b) ≡ Some b
byte_back b small =
    let high = hex_is (b / 16) (omega (arith, small)) in
    let low = hex_is (b % 16) (omega (arith, small)) in
    let whole : b / 16 * 16 + b % 16 ≡ b = omega arith in
    ap (λ t. if t && is_digit (hex_digit (b % 16)) 16 then Some (digit_value (hex_digit (b / 16)) * 16 + digit_value (hex_digit (b % 16))) else None) high.digit
    ∙ ap (λ t. if t then Some (digit_value (hex_digit (b / 16)) * 16 + digit_value (hex_digit (b % 16))) else None) low.digit
    ∙ ap (λ v. Some (v * 16 + digit_value (hex_digit (b % 16)))) high.value ∙ ap (λ v. Some (b / 16 * 16 + v)) low.value ∙ ap Some whole

pub byte_plain : (b : ℕ) → b < 256 → is_plain (hex_byte b) ≡ true
byte_plain b small = rw ((hex_is (b / 16) (omega (arith, small))).plain, (hex_is (b % 16) (omega (arith, small))).plain) refl

op4_byte : (b : ℕ) → b < 256 → op4_of (hex_byte b) ≡ Some (Some b)
op4_byte b small =
    let high = hex_is (b / 16) (omega (arith, small)) in
    let other : bytes_eq (hex_byte b) (codes "--") ≡ false = ap (λ t. t && bytes_eq (hex_digit (b % 16) ∷ []) (codes "-")) high.other in
    ap (λ t. if t then Some None else option_map Some (byte_of (hex_byte b))) other ∙ ap (option_map Some) (byte_back b small)

pub op4_back : (op4 : Option ℕ) → IfSome op4 (λ b. b < 256) → op4_of (op4_text op4) ≡ Some op4
op4_back None small = refl
op4_back (Some b) small = op4_byte b small

pub op4_plain : (op4 : Option ℕ) → IfSome op4 (λ b. b < 256) → is_plain (op4_text op4) ≡ true
op4_plain None small = refl
op4_plain (Some b) small = byte_plain b small
