-- Lemmas on a record by its digits.
use Prim.Native.Nat.{zero}
use Rattle.std.proofs.Common.{◌≡◌, ℕ, suc, ◌+◌, ◌-◌, ◌*◌, ◌/◌, ◌≤◌, Bool, true, false, nat_lt, List, [], ◌∷◌, length, take, drop, Ok, Err, refl, sym, ap, ◌∙◌, arith}
use Rattle.std.specs.List.{list_all}
use Rattle.std.proofs.Math.ListN.{length-take, length-drop}
use Rattle.std.proofs.lemmas.Bool.{eqb-true}
use Rattle.hex.specs.Hex.{is_hex_digit}
use Rattle.nor_hex.specs.declared.fault.HexFault.TheVariants.{NoColon, BadDigit, BadLength, BadSum, BadType}
use Rattle.std.specs.Prelude.{slice_index, ◌==◌}
use Rattle.nor_hex.specs.Record.{digit, pair_bytes, record_of, fields, has_length, has_sum, fits_type, length_field, type_field, data_field}
use Rattle.nor_hex.proofs.PairLemmas.{both, length-pair_bytes}

-- the record or its fault, cause by cause
abbrev pub begins : List ℕ → Bool
begins [] = false
begins (byte ∷ rest) = byte == 58

begins_first : (line : List ℕ) → (slice_index line 0 == 58) ≡ begins line
begins_first [] = refl
begins_first (byte ∷ rest) = refl

pub at_no_colon : (n : ℕ) (line : List ℕ) → begins line ≡ false → Err (NoColon n) ≡ record_of n line
unfolding record_of
at_no_colon n line e = let first : (slice_index line 0 == 58) ≡ false = begins_first line ∙ e in rw first refl

pub at_bad_digit : (n : ℕ) (line digits : List ℕ) → line ≡ 58 ∷ digits → list_all is_hex_digit digits ≡ false → Err (BadDigit n) ≡ record_of n line
unfolding record_of
at_bad_digit n line digits e wrong = rw (e, wrong) refl

pub at_bad_length : (n : ℕ) (line digits : List ℕ) → line ≡ 58 ∷ digits → list_all is_hex_digit digits ≡ true → has_length digits ≡ false → Err (BadLength n) ≡ record_of n line
unfolding record_of
at_bad_length n line digits e right wrong = rw (e, right, wrong) refl

pub at_bad_sum : (n : ℕ) (line digits : List ℕ) → line ≡ 58 ∷ digits → list_all is_hex_digit digits ≡ true → has_length digits ≡ true → has_sum digits ≡ false → Err (BadSum n) ≡ record_of n line
unfolding record_of
at_bad_sum n line digits e right full wrong = rw (e, right, full, wrong) refl

pub at_bad_type : (n : ℕ) (line digits : List ℕ) → line ≡ 58 ∷ digits → list_all is_hex_digit digits ≡ true → has_length digits ≡ true → has_sum digits ≡ true → nat_lt 5 (type_field (pair_bytes digits)) ≡ true → Err (BadType n) ≡ record_of n line
unfolding record_of
at_bad_type n line digits e right full sound wrong = rw (e, right, full, sound, wrong) refl

pub at_record : (n : ℕ) (line digits : List ℕ) → line ≡ 58 ∷ digits → list_all is_hex_digit digits ≡ true → has_length digits ≡ true → has_sum digits ≡ true → nat_lt 5 (type_field (pair_bytes digits)) ≡ false → Ok (fields n (pair_bytes digits)) ≡ record_of n line
unfolding record_of
at_record n line digits e right full sound known = rw (e, right, full, sound, known) refl

-- the number of digits, where the length is right
pub length-complete : (digits : List ℕ) → has_length digits ≡ true → length digits ≡ 10 + 2 * length_field (pair_bytes digits)
length-complete digits e = eqb-true (length digits) (10 + 2 * length_field (pair_bytes digits)) ((both _ _ ((both _ _ e).0)).1)

-- a part of digits is digits
pub all-drop : (test : ℕ → Bool) (k : ℕ) (xs : List ℕ) → list_all test xs ≡ true → list_all test (drop k xs) ≡ true
all-drop test zero xs e = e
all-drop test (suc k) [] e = refl
all-drop test (suc k) (x ∷ xs) e = all-drop test k xs (both (test x) (list_all test xs) e).1

pub all-take : (test : ℕ → Bool) (k : ℕ) (xs : List ℕ) → list_all test xs ≡ true → list_all test (take k xs) ≡ true
all-take test zero xs e = refl
all-take test (suc k) [] e = refl
all-take test (suc k) (x ∷ xs) e = let parts = both (test x) (list_all test xs) e in rw parts.0 (all-take test k xs parts.1)

-- the pairs of a part
pub pair_bytes-drop : (k : ℕ) (xs : List ℕ) → pair_bytes (drop (2 * k) xs) ≡ drop k (pair_bytes xs)
pair_bytes-drop zero xs = refl
pair_bytes-drop (suc k) [] = let e : 2 * suc k ≡ suc (suc (2 * k)) = omega arith in rw e refl
pair_bytes-drop (suc k) (a ∷ []) = let e : 2 * suc k ≡ suc (suc (2 * k)) = omega arith in rw e refl
pair_bytes-drop (suc k) (a ∷ b ∷ xs) = let e : 2 * suc k ≡ suc (suc (2 * k)) = omega arith in rw e (pair_bytes-drop k xs)

pub pair_bytes-take : (k : ℕ) (xs : List ℕ) → pair_bytes (take (2 * k) xs) ≡ take k (pair_bytes xs)
pair_bytes-take zero xs = refl
pair_bytes-take (suc k) [] = let e : 2 * suc k ≡ suc (suc (2 * k)) = omega arith in rw e refl
pair_bytes-take (suc k) (a ∷ []) = let e : 2 * suc k ≡ suc (suc (2 * k)) = omega arith in rw e refl
pair_bytes-take (suc k) (a ∷ b ∷ xs) = let e : 2 * suc k ≡ suc (suc (2 * k)) = omega arith in rw e (ap (λ bytes. (digit a * 16 + digit b) ∷ bytes) (pair_bytes-take k xs))

-- the data, between the fields before it and the checksum
pub data_bytes : (digits : List ℕ) (n : ℕ) → length digits ≡ 10 + 2 * length_field (pair_bytes digits) → n ≡ length digits - 2 - 8 → pair_bytes (take n (drop 8 digits)) ≡ data_field (pair_bytes digits)
data_bytes digits n e m =
    let twice : n ≡ 2 * length_field (pair_bytes digits) = omega arith in
    rw twice (pair_bytes-take (length_field (pair_bytes digits)) (drop 8 digits) ∙ ap (take (length_field (pair_bytes digits))) (pair_bytes-drop 4 digits))

-- there are as many data bytes as the record length says
pub length-data : (digits : List ℕ) → length digits ≡ 10 + 2 * length_field (pair_bytes digits) → length (data_field (pair_bytes digits)) ≡ length_field (pair_bytes digits)
length-data digits e =
    omega (arith, length-pair_bytes digits, length-drop 4 (pair_bytes digits), length-take (length_field (pair_bytes digits)) (drop 4 (pair_bytes digits)))

-- and the length is right for the type
pub fits-complete : (digits : List ℕ) → has_length digits ≡ true → fits_type (type_field (pair_bytes digits)) (length (data_field (pair_bytes digits))) ≡ true
fits-complete digits e = rw (length-data digits (length-complete digits e)) (both _ _ e).1

-- ---- the data in bytes that begin with those of the record
front_of_front : (xs : List ℕ) (m n : ℕ) → n ≤ m → take n (take m xs) ≡ take n xs
front_of_front xs m zero h = refl
front_of_front [] zero (suc n) h = refl
front_of_front [] (suc m) (suc n) h = refl
front_of_front (x ∷ xs) zero (suc n) h = absurd (omega arith)
front_of_front (x ∷ xs) (suc m) (suc n) h = ap (λ ys. x ∷ ys) (front_of_front xs m n (omega arith))

part_of_front : (xs : List ℕ) (m d n : ℕ) → d + n ≤ m → take n (drop d (take m xs)) ≡ take n (drop d xs)
part_of_front xs m zero n h = front_of_front xs m n (omega arith)
part_of_front xs zero (suc d) n h = absurd (omega arith)
part_of_front [] (suc m) (suc d) n h = refl
part_of_front (x ∷ xs) (suc m) (suc d) n h = part_of_front xs m d n (omega arith)

pub front_data : (digits bytes : List ℕ) (n : ℕ) → has_length digits ≡ true → take (length digits / 2) bytes ≡ pair_bytes digits → n ≡ length_field (pair_bytes digits) → take n (drop 4 bytes) ≡ data_field (pair_bytes digits)
front_data digits bytes n full front n_is =
    let len = length-complete digits full in
    sym (part_of_front bytes (length digits / 2) 4 n (omega arith))
    ∙ ap (λ p. take n (drop 4 p)) front
    ∙ ap (λ k. take k (drop 4 (pair_bytes digits))) n_is
