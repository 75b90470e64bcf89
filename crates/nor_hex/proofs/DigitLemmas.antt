-- Bytes as upper-case digits, read back.
use Rattle.std.proofs.Common.{◌≡◌, ℕ, zero, suc, ◌+◌, ◌*◌, ◌/◌, ◌%◌, ◌<◌, ◌≤◌, Bool, true, List, [], ◌∷◌, ◌++◌, length, refl, sym, ap, ◌∙◌, append_assoc, arith}
use Rattle.std.specs.Prelude.{nat_le, nat_lt, ◌&&◌}
use Rattle.std.specs.List.{list_all, slice_index}
use Rattle.std.specs.Option.{unwrap_or}
use Rattle.std.proofs.lemmas.Bool.{and_parts}
use Rattle.hex.specs.Hex.{encode_with, encode_upper, upper_digits, is_hex_digit}
use Rattle.hex.proofs.HexLemmas.{IsDigits-upper_digits}
use Rattle.nor_base.specs.Array.{are_bytes}
use Rattle.nor_hex.specs.Record.{digit, pair_bytes}

-- one byte more
pub one_byte_more : (xs : List ℕ) (b : ℕ) → encode_upper (xs ++ b ∷ []) ≡ encode_upper xs ++ slice_index upper_digits (b / 16) ∷ slice_index upper_digits (b % 16) ∷ []
unfolding encode_with
one_byte_more [] b = refl
one_byte_more (x ∷ xs) b = ap (λ rest. slice_index upper_digits (x / 16) ∷ slice_index upper_digits (x % 16) ∷ rest) (one_byte_more xs b)

-- and its digits put at the end of a line
pub digits_added : (text bytes : List ℕ) (b h l : ℕ) → text ≡ 0x3A ∷ encode_upper bytes → h ≡ slice_index upper_digits (b / 16) → l ≡ slice_index upper_digits (b % 16)
    → (text ++ h ∷ []) ++ l ∷ [] ≡ 0x3A ∷ encode_upper (bytes ++ b ∷ [])
digits_added text bytes b h l is high low =
    append_assoc text (h ∷ []) (l ∷ []) ∙ ap (λ t. t ++ h ∷ l ∷ []) is
    ∙ ap (λ d. 0x3A ∷ (encode_upper bytes ++ d ∷ l ∷ [])) high
    ∙ ap (λ d. 0x3A ∷ (encode_upper bytes ++ slice_index upper_digits (b / 16) ∷ d ∷ [])) low
    ∙ ap (λ t. 0x3A ∷ t) (sym (one_byte_more bytes b))

pub no_bytes : encode_upper [] ≡ []
unfolding encode_with
no_bytes = refl

abbrev pub both_true : (a b : Bool) → a ≡ true → b ≡ true → (a && b) ≡ true
both_true a b p q = rw (p, q) refl

-- a digit of the table
reads : (d : ℕ) → d < 16 → digit (slice_index upper_digits d) ≡ d
reads d below = ap (λ v. unwrap_or v 0) (IsDigits-upper_digits d below)

is_one : (d : ℕ) → d < 16 → is_hex_digit (slice_index upper_digits d) ≡ true
is_one d below = rw (IsDigits-upper_digits d below) refl

-- it stands past blanks and line ends in the code
abbrev pub is_high : ℕ → Bool
is_high c = nat_le 48 c

high_in : (t : List ℕ) (d : ℕ) → list_all is_high t ≡ true → d < length t → is_high (slice_index t d) ≡ true
high_in [] d all below = absurd (omega arith)
high_in (c ∷ t) zero all below = (and_parts (is_high c) (list_all is_high t) all).0
high_in (c ∷ t) (suc d) all below = high_in t d (and_parts (is_high c) (list_all is_high t) all).1 (omega arith)

is_far : (d : ℕ) → d < 16 → is_high (slice_index upper_digits d) ≡ true
is_far d below = high_in upper_digits d refl below

first_byte : (b : ℕ) (xs : List ℕ) → are_bytes (b ∷ xs) ≡ true → (b < 256) × (are_bytes xs ≡ true)
first_byte b xs all = let parts = and_parts (nat_lt b 256) (are_bytes xs) all in (small b parts.0, parts.1)
  where
    small : (b : ℕ) → nat_lt b 256 ≡ true → b < 256
    small b is = grind arith

pub digits_spell : (xs : List ℕ) → are_bytes xs ≡ true → pair_bytes (encode_upper xs) ≡ xs
unfolding encode_with
digits_spell [] all = refl
digits_spell (b ∷ xs) all =
    let parts = first_byte b xs all in
    let fits : b < 256 = parts.0 in
    let high : b / 16 < 16 = omega arith in
    let low : b % 16 < 16 = omega arith in
    let whole : b / 16 * 16 + b % 16 ≡ b = omega arith in
    ap (λ h. (h * 16 + digit (slice_index upper_digits (b % 16))) ∷ pair_bytes (encode_upper xs)) (reads (b / 16) high)
    ∙ ap (λ l. (b / 16 * 16 + l) ∷ pair_bytes (encode_upper xs)) (reads (b % 16) low)
    ∙ ap (λ v. v ∷ pair_bytes (encode_upper xs)) whole
    ∙ ap (λ rest. b ∷ rest) (digits_spell xs parts.1)

pub all_digits : (xs : List ℕ) → are_bytes xs ≡ true → list_all is_hex_digit (encode_upper xs) ≡ true
unfolding encode_with
all_digits [] all = refl
all_digits (b ∷ xs) all =
    let parts = first_byte b xs all in
    let fits : b < 256 = parts.0 in
    let high : b / 16 < 16 = omega arith in
    let low : b % 16 < 16 = omega arith in
    both_true _ _ (is_one (b / 16) high) (both_true _ _ (is_one (b % 16) low) (all_digits xs parts.1))

pub all_high : (xs : List ℕ) → are_bytes xs ≡ true → list_all is_high (encode_upper xs) ≡ true
unfolding encode_with
all_high [] all = refl
all_high (b ∷ xs) all =
    let parts = first_byte b xs all in
    let fits : b < 256 = parts.0 in
    let high : b / 16 < 16 = omega arith in
    let low : b % 16 < 16 = omega arith in
    both_true _ _ (is_far (b / 16) high) (both_true _ _ (is_far (b % 16) low) (all_high xs parts.1))

pub high_at : (t : List ℕ) (d : ℕ) → list_all is_high t ≡ true → d < length t → 48 ≤ slice_index t d
high_at t d all below = past (slice_index t d) (high_in t d all below)
  where
    past : (c : ℕ) → is_high c ≡ true → 48 ≤ c
    past c is = grind arith
