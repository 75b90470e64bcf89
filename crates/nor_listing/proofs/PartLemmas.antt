-- What is spelled is read back.
use Rattle.std.proofs.Common.{◌≡◌, ℕ, zero, suc, ◌+◌, ◌%◌, ◌^◌, ◌<◌, ◌≤◌, ◌==◌, ◌&&◌, Bool, true, false, cond, List, [], ◌∷◌, ◌++◌, length, take, drop, get_or, Some, None, Ok, refl, sym, ◌∙◌, ap, arith, Fits, w8, length-append}
use Rattle.std.specs.Prelude.{not, nat_le, nat_lt, decimal, flat_map, if◌then◌else◌, option_map}
use Rattle.std.specs.Char.{is_digit, digit_value}
use Rattle.std.specs.Int.{w32, to_be_bytes}
use Rattle.std.specs.List.{list_all, position_or_len}
use Rattle.std.specs.Str.Parse.{AllDigits, digits_value}
use Rattle.std.proofs.lemmas.Bool.{lt-ltb, le-leb, le-ltb, and_parts, agree_below_at}
use Rattle.std.proofs.lemmas.Fmt.{decimal_by_steps, decimal_is_IsNumeral}
use Rattle.std.proofs.lemmas.Nat.{from_be_bytes-to_be_bytes_4}
use Rattle.hex.specs.Hex.{encode_lower, decode_of, decode_sized, IsBytes}
use Rattle.hex.proofs.HexLemmas.{decode_of-encode_lower, decode_sized-encode_lower}
use Rattle.nor_base.specs.Script.{hex_pair}
use Rattle.nor_laws.proofs.ScriptLaws.{Small}
use Rattle.nor_listing.specs.Listing.{in_eight, counted, spelled}
use Rattle.nor_listing.specs.Parts.{byte_by, number_by, bytes_by, byte_in, number_in, bytes_in, decimal_in, blank_in, cut_by, cut, opcode_on, address_on, count_on, counted_on}
use Rattle.nor_script.specs.Hexadecimal.{hex_number}
use Rattle.nor_script.proofs.HexLemmas.{written}

-- bytes, by their hexadecimal digits
small_at : (xs : List ℕ) → Small xs → IsBytes xs
small_at [] small i = omega arith
small_at (x ∷ xs) small zero = small.0
small_at (x ∷ xs) small (suc i) = small_at xs small.1 i

fits_at : (xs : List ℕ) → Small xs → (i : ℕ) → Fits w8 (get_or xs i 0)
fits_at [] small i = omega arith
fits_at (x ∷ xs) small zero = let first = small.0 in omega (arith, first)
fits_at (x ∷ xs) small (suc i) = fits_at xs small.1 i

digits_are : (bytes : List ℕ) → Small bytes → encode_lower bytes ≡ flat_map hex_pair bytes
digits_are bytes small = written (Ok tt) (encode_lower bytes) bytes refl refl (fits_at bytes small)

pub bytes_back : (bytes : List ℕ) → Small bytes → bytes_in (flat_map hex_pair bytes) ≡ Some bytes
bytes_back bytes small =
    ap (λ d. bytes_by (decode_of d)) (sym (digits_are bytes small)) ∙ ap bytes_by (decode_of-encode_lower bytes (small_at bytes small))

sized_back : (bytes : List ℕ) (n : ℕ) → length bytes ≡ n → Small bytes → decode_sized (flat_map hex_pair bytes) n ≡ Ok bytes
sized_back bytes n count small = ap (λ d. decode_sized d n) (sym (digits_are bytes small)) ∙ decode_sized-encode_lower bytes n count (small_at bytes small)

pub byte_back : (b : ℕ) → b < 256 → byte_in (hex_pair b) ≡ Some b
byte_back b small = ap byte_by (sized_back (b ∷ []) 1 refl (small, tt))

pub number_back : (n : ℕ) → n < 2 ^ 32 → number_in (hex_number n) ≡ Some n
unfolding hex_number
number_back n small =
    ap number_by (sized_back (to_be_bytes w32 n) 4 refl (omega arith, (omega arith, (omega arith, (omega arith, tt)))))
    ∙ ap Some (from_be_bytes-to_be_bytes_4 n small)

-- a number, by its decimal digits
digits_all : (ds : List ℕ) → AllDigits 10 ds → list_all (λ c. is_digit c 10) ds ≡ true
digits_all [] each = refl
digits_all (c ∷ ds) each = ap (λ b. b && list_all (λ c. is_digit c 10) ds) (lt-ltb (digit_value c) 10 each.0) ∙ digits_all ds each.1

pub decimal_back : (n : ℕ) → n < 2 ^ 64 → decimal_in (decimal n) ≡ Some n
decimal_back n small =
    let is = decimal_is_IsNumeral n small in
    ap (λ b. if b && nat_lt (digits_value 10 (decimal n)) (2 ^ 64) then Some (digits_value 10 (decimal n)) else None) (digits_all (decimal n) is.0.1)
    ∙ ap (λ v. if nat_lt v (2 ^ 64) then Some v else None) is.1
    ∙ ap (λ b. if b then Some n else None) (lt-ltb n (2 ^ 64) small)

-- a text without a blank, up to one
abbrev pub is_unblank : List ℕ → Bool
is_unblank text = list_all (λ byte. not (byte == 0x20)) text

abbrev first_blank : List ℕ → ℕ
first_blank text = position_or_len (λ byte. byte == 0x20) text

blank_at : (front rest : List ℕ) → is_unblank front ≡ true → first_blank (front ++ 0x20 ∷ rest) ≡ length front
blank_at [] rest none = refl
blank_at (c ∷ front) rest none =
    let parts = and_parts (not (c == 0x20)) (is_unblank front) none in
    ap (λ b. cond b (1 + first_blank (front ++ 0x20 ∷ rest)) 0) parts.0 ∙ ap (λ n. 1 + n) (blank_at front rest parts.1) ∙ omega arith

no_blank_at : (front : List ℕ) → is_unblank front ≡ true → first_blank front ≡ length front
no_blank_at [] none = refl
no_blank_at (c ∷ front) none =
    let parts = and_parts (not (c == 0x20)) (is_unblank front) none in
    ap (λ b. cond b (1 + first_blank front) 0) parts.0 ∙ ap (λ n. 1 + n) (no_blank_at front parts.1) ∙ omega arith

one_more : (n : ℕ) → suc n + 1 ≡ suc (n + 1)
one_more n = omega arith

pub cut_at : (front rest : List ℕ) → is_unblank front ≡ true → cut (front ++ 0x20 ∷ rest) ≡ (front, rest)
cut_at front rest none =
    let text = front ++ 0x20 ∷ rest in
    let long : length front < length text = omega (arith, length-append front (0x20 ∷ rest)) in
    let found : blank_in text ≡ Some (length front) =
    ap (λ n. cond (nat_lt n (length text)) (Some n) None) (blank_at front rest none) ∙ ap (λ b. cond b (Some (length front)) None) (lt-ltb (length front) (length text) long) in
    ap (cut_by text) found
    ∙ ap (λ l. (l, drop (length front + 1) text)) (take_front front (0x20 ∷ rest))
    ∙ ap (λ l. (front, l)) (drop_front front rest)
  where
    take_front : (xs ys : List ℕ) → take (length xs) (xs ++ ys) ≡ xs
    take_front [] ys = refl
    take_front (x ∷ xs) ys = ap (λ l. x ∷ l) (take_front xs ys)

    drop_front : (xs ys : List ℕ) → drop (length xs + 1) (xs ++ 0x20 ∷ ys) ≡ ys
    drop_front [] ys = refl
    drop_front (x ∷ xs) ys = ap (λ n. drop n (x ∷ (xs ++ 0x20 ∷ ys))) (one_more (length xs)) ∙ drop_front xs ys

pub cut_none : (front : List ℕ) → is_unblank front ≡ true → cut front ≡ (front, [])
cut_none front none =
    ap (cut_by front)
    (ap (λ n. cond (nat_lt n (length front)) (Some n) None) (no_blank_at front none) ∙ ap (λ b. cond b (Some (length front)) None) (self_ltb (length front)))
  where
    self_ltb : (n : ℕ) → nat_lt n n ≡ false
    self_ltb n = le-ltb n n (omega arith)

unblank_append : (xs ys : List ℕ) → is_unblank xs ≡ true → is_unblank ys ≡ true → is_unblank (xs ++ ys) ≡ true
unblank_append [] ys first second = second
unblank_append (x ∷ xs) ys first second =
    let parts = and_parts (not (x == 0x20)) (is_unblank xs) first in
    ap (λ b. b && is_unblank (xs ++ ys)) parts.0 ∙ unblank_append xs ys parts.1 second

digit_unblank : (d : ℕ) → d < 10 → is_unblank ((48 + d) ∷ []) ≡ true
digit_unblank d small = agree_below_at (λ k. is_unblank ((48 + k) ∷ [])) (λ k. true) 10 d refl small

pub decimal_unblank : (n : ℕ) → n < 2 ^ 64 → is_unblank (decimal n) ≡ true
decimal_unblank n fits =
    decimal_by_steps (λ k ds. is_unblank ds ≡ true) (λ k small. digit_unblank k small)
    (λ k ds big before. unblank_append ds ((48 + k % 10) ∷ []) before (digit_unblank (k % 10) (omega arith))) n fits

-- opcode, address and number of bytes, in their places
enough : {A : Type 0} (n : ℕ) (text : List ℕ) (x y : A) → n ≤ length text → (if nat_le n (length text) then x else y) ≡ x
enough n text x y long = ap (λ b. if b then x else y) (le-leb n (length text) long)

pub opcode_back : (op : ℕ) (tail : List ℕ) → op < 256 → opcode_on (hex_pair op ++ tail) ≡ Some (record { op = op; address = 0; after = tail })
opcode_back op tail small =
    let text = hex_pair op ++ tail in
    enough 2 text (option_map (λ k. record { op = k; address = 0; after = tail }) (byte_in (hex_pair op))) None (omega arith)
    ∙ ap (option_map (λ k. record { op = k; address = 0; after = tail })) (byte_back op small)

pub address_back : (op a : ℕ) (tail : List ℕ) → a < 2 ^ 32 → address_on (record { op = op; address = 0; after = in_eight a ++ tail }) ≡ Some (record { op = op; address = a; after = tail })
unfolding hex_number
address_back op a tail small =
    enough 9 (in_eight a ++ tail) (option_map (λ k. record { op = op; address = k; after = tail }) (number_in (hex_number a))) None (omega arith)
    ∙ ap (option_map (λ k. record { op = op; address = k; after = tail })) (number_back a small)

pub counted_plain : (n : ℕ) → n < 2 ^ 64 → counted_on (counted n) ≡ Some (n, [])
counted_plain n fits =
    enough 1 (counted n) (count_on (cut (decimal n))) None (omega arith)
    ∙ ap count_on (cut_none (decimal n) (decimal_unblank n fits))
    ∙ ap (option_map (λ k. (k, []))) (decimal_back n fits)

pub counted_data : (n : ℕ) (bytes : List ℕ) → n < 2 ^ 64 → counted_on (counted n ++ spelled bytes) ≡ Some (n, flat_map hex_pair bytes)
counted_data n bytes fits =
    let digits = flat_map hex_pair bytes in
    enough 1 (counted n ++ spelled bytes) (count_on (cut (decimal n ++ 0x20 ∷ digits))) None (omega arith)
    ∙ ap count_on (cut_at (decimal n) digits (decimal_unblank n fits))
    ∙ ap (option_map (λ k. (k, digits))) (decimal_back n fits)
