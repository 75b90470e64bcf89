-- A record in the format's words and as it is computed are the same.
use Prim.Native.Nat.{zero}
use Rattle.std.proofs.Common.{◌≡◌, ℕ, suc, ◌+◌, ◌*◌, ◌%◌, ◌≤◌, ◌==◌, Bool, true, false, not, cond, nat_lt, nat_le, List, [], ◌∷◌, ◌++◌, length, take, drop, slice_index, sum, Result, Ok, Err, refl, sym, ap, subst, ◌∙◌, arith}
use Rattle.std.specs.List.{list_all}
use Rattle.std.proofs.lemmas.Bool.{eqb-true, eq-eqb, le-leb, le-ltb, ltb-false}
use Rattle.hex.specs.Hex.{is_hex_digit}
use Rattle.nor_hex.specs.declared.fault.HexFault.{HexFault}
use Rattle.nor_hex.specs.declared.fault.HexFault.TheVariants.{NoColon, BadDigit, BadLength, BadSum, BadType}
use Rattle.nor_hex.specs.Record.{Record, IsRecord, pair_bytes, record_of, fields, has_length, has_sum, fits_type, length_field, type_field, data_field}
use Rattle.nor_hex.proofs.PairLemmas.{length-pair_bytes}
use Rattle.nor_hex.proofs.PutLemmas.{take-append_here}
use Rattle.nor_hex.proofs.RecordLemmas.{at_record, length-complete, fits-complete, length-data}

-- ---- from the words to the record
-- the fields of bytes that are spelled so
fields_of : (n : ℕ) (this : Record) (high low checksum : ℕ) → this.offset ≡ high * 256 + low → this.line ≡ n → fields n (length this.bytes ∷ high ∷ low ∷ this.kind ∷ (this.bytes ++ checksum ∷ [])) ≡ this
fields_of n this high low checksum offset_is line_is =
    let front : take (length this.bytes) (this.bytes ++ checksum ∷ []) ≡ this.bytes = take-append_here this.bytes (checksum ∷ []) in
    rw (← offset_is, front, ← line_is) refl

pub record_from_words : (n : ℕ) (line : List ℕ) (this : Record) → IsRecord n line this → record_of n line ≡ Ok this
record_from_words n line this is =
    let bytes = pair_bytes is.digits in
    let kind_is : type_field bytes ≡ this.kind = ap type_field is.spelled in
    let len_is : length_field bytes ≡ length this.bytes = ap length_field is.spelled in
    let enough : 10 ≤ length is.digits = omega (arith, is.pairs) in
    let full : has_length is.digits ≡ true = complete is.digits (le-leb 10 (length is.digits) enough) (eq-eqb (length is.digits) (10 + 2 * length_field bytes) (rw len_is is.pairs)) (rw (kind_is, len_is) is.fits) in
    let known : nat_lt 5 (type_field bytes) ≡ false = rw kind_is (le-ltb 5 this.kind is.known) in
    sym (at_record n line is.digits is.colon is.all_digits full (eq-eqb (sum bytes % 256) 0 is.sum_is) known)
    ∙ ap (λ bytes. Ok (fields n bytes)) is.spelled
    ∙ ap Ok (fields_of n this is.high is.low is.checksum is.offset_is is.line_is)
  where
    complete : (digits : List ℕ) → nat_le 10 (length digits) ≡ true → (length digits == 10 + 2 * length_field (pair_bytes digits)) ≡ true → fits_type (type_field (pair_bytes digits)) (length_field (pair_bytes digits)) ≡ true → has_length digits ≡ true
    complete digits a b c = rw (a, b, c) refl

-- ---- from the record to the words
-- bytes as long as their first says
spelled_so : (bytes : List ℕ) → length bytes ≡ 5 + length_field bytes → (checksum : ℕ) × (bytes ≡ length_field bytes ∷ slice_index bytes 1 ∷ slice_index bytes 2 ∷ type_field bytes ∷ (data_field bytes ++ checksum ∷ []))
spelled_so [] e = absurd (omega arith)
spelled_so (a ∷ []) e = absurd (omega arith)
spelled_so (a ∷ b ∷ []) e = absurd (omega arith)
spelled_so (a ∷ b ∷ c ∷ []) e = absurd (omega arith)
spelled_so (a ∷ b ∷ c ∷ d ∷ rest) e =
    let found = front_and_last rest a (omega arith) in
    (found.0, ap (λ more. a ∷ b ∷ c ∷ d ∷ more) found.1)
  where
    front_and_last : (xs : List ℕ) (n : ℕ) → length xs ≡ n + 1 → (last : ℕ) × (xs ≡ take n xs ++ last ∷ [])
    front_and_last [] n e = absurd (omega arith)
    front_and_last (x ∷ []) zero e = (x, refl)
    front_and_last (x ∷ y ∷ xs) zero e = absurd (omega arith)
    front_and_last (x ∷ xs) (suc n) e = let found = front_and_last xs n (omega arith) in (found.0, ap (λ ys. x ∷ ys) found.1)

words_of : (n : ℕ) (line digits : List ℕ) → line ≡ 58 ∷ digits → list_all is_hex_digit digits ≡ true → has_length digits ≡ true → has_sum digits ≡ true → nat_lt 5 (type_field (pair_bytes digits)) ≡ false → IsRecord n line (fields n (pair_bytes digits))
words_of n line digits e all full sound known =
    let len = length-complete digits full in
    let data_len = length-data digits len in
    let enough : length (pair_bytes digits) ≡ 5 + length_field (pair_bytes digits) = omega (arith, length-pair_bytes digits) in
    let found = spelled_so (pair_bytes digits) enough in
    record {
      digits = digits;
      high = slice_index (pair_bytes digits) 1;
      low = slice_index (pair_bytes digits) 2;
      checksum = found.0;
      colon = e;
      all_digits = all;
      pairs = rw data_len len;
      spelled = found.1 ∙ ap (λ len. len ∷ slice_index (pair_bytes digits) 1 ∷ slice_index (pair_bytes digits) 2 ∷ type_field (pair_bytes digits) ∷ (data_field (pair_bytes digits) ++ found.0 ∷ [])) (sym data_len);
      offset_is = refl;
      fits = fits-complete digits full;
      known = ltb-false 5 (type_field (pair_bytes digits)) known;
      sum_is = eqb-true (sum (pair_bytes digits) % 256) 0 sound;
      line_is = refl;
    }

abbrev item_of : Record → Result Record HexFault
item_of line = Ok line

passed : (held : Bool) (own : HexFault) (other : Result Record HexFault) (this : Record) → cond (not held) (Err own) other ≡ Ok this → (held ≡ true) × (other ≡ Ok this)
passed true own other this e = (refl, e)
passed false own other this e = absurd (apart e)
  where
    apart : Err own ≡ item_of this → ⊥
    apart e = cc

last_passed : (failed : Bool) (own : HexFault) (other : Result Record HexFault) (this : Record) → cond failed (Err own) other ≡ Ok this → (failed ≡ false) × (other ≡ Ok this)
last_passed false own other this e = (refl, e)
last_passed true own other this e = absurd (apart e)
  where
    apart : Err own ≡ item_of this → ⊥
    apart e = cc

ok_same : (a b : Record) → item_of a ≡ item_of b → a ≡ b
ok_same a b e = cc

colon_first : (line : List ℕ) → (slice_index line 0 == 58) ≡ true → line ≡ 58 ∷ drop 1 line
colon_first [] e = absurd cc
colon_first (byte ∷ rest) e = ap (λ b. b ∷ rest) (eqb-true byte 58 e)

pub words_from_record : (n : ℕ) (line : List ℕ) (this : Record) → record_of n line ≡ Ok this → IsRecord n line this
unfolding record_of
words_from_record n line this e =
    let colon = passed _ (NoColon n) _ this e in
    let digits = passed _ (BadDigit n) _ this colon.1 in
    let full = passed _ (BadLength n) _ this digits.1 in
    let sound = passed _ (BadSum n) _ this full.1 in
    let known = last_passed _ (BadType n) _ this sound.1 in
    let same = ok_same (fields n (pair_bytes (drop 1 line))) this known.1 in
    subst (IsRecord n line) same (words_of n line (drop 1 line) (colon_first line colon.0) digits.0 full.0 sound.0 known.0)
