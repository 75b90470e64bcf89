-- The bytes of an image are bytes.
use Rattle.std.proofs.Common.{◌≡◌, ℕ, zero, suc, ◌-◌, ◌<◌, ◌&&◌, nat_le, nat_lt, not, Bool, true, false, if◌then◌else◌, List, [], ◌∷◌, map, drop, Option, Some, None, Ok, Err, refl, ◌∙◌, ap, subst, arith}
use Rattle.std.specs.Prelude.{◌==◌, is_some, slice_get}
use Rattle.std.specs.List.{slice_index, list_all}
use Rattle.std.specs.Option.{unwrap_or}
use Rattle.std.proofs.lemmas.Bool.{and_parts, leb-true}
use Rattle.std.proofs.lemmas.Option.{get_or_from_slice_get}
use Rattle.nor_hex.specs.declared.fault.HexFault.{HexFault}
use Rattle.nor_hex.specs.declared.fault.HexFault.TheVariants.{NoColon, BadDigit, BadLength, BadSum, BadType}
use Rattle.nor_hex.specs.Faults.{IsImage}
use Rattle.nor_hex.specs.Image.{GivesBytes, Pairs}
use Rattle.nor_hex.specs.Record.{Record, digit, pair_bytes, has_length, has_sum, type_field, length_field, fields, record_of}
use Rattle.nor_hex.specs.Records.{record_at}
use Rattle.nor_job.specs.Causes.{ImageSays}
use Rattle.nor_job.specs.Written.{AreBytes}
use Rattle.norprog.proofs.Promise.Bytes.{small_take, small_drop}

in_three : (b c d : Bool) (x y z : ℕ) → (b ≡ true → x < 16) → (c ≡ true → y < 16) → (d ≡ true → z < 16)
    → unwrap_or (if b then Some x else if c then Some y else if d then Some z else None) 0 < 16
in_three true c d x y z p q r = p refl
in_three false true d x y z p q r = q refl
in_three false false true x y z p q r = r refl
in_three false false false x y z p q r = omega arith

digit_small : (byte : ℕ) → digit byte < 16
digit_small c =
    in_three (nat_le 65 c && nat_le c 70) (nat_le 97 c && nat_le c 102) (nat_le 48 c && nat_le c 57) (c - 55) (c - 87) (c - 48)
    (λ is. let most = leb-true c 70 (and_parts (nat_le 65 c) (nat_le c 70) is).1 in omega (arith, most))
    (λ is. let most = leb-true c 102 (and_parts (nat_le 97 c) (nat_le c 102) is).1 in omega (arith, most))
    (λ is. let most = leb-true c 57 (and_parts (nat_le 48 c) (nat_le c 57) is).1 in omega (arith, most))

pairs_small : (digits : List ℕ) → AreBytes (pair_bytes digits)
pairs_small [] k = omega arith
pairs_small (a ∷ []) k = omega arith
pairs_small (high ∷ low ∷ rest) zero = omega (arith, digit_small high, digit_small low)
pairs_small (high ∷ low ∷ rest) (suc k) = pairs_small rest k

by_tests : (a b c d e : Bool) (f1 f2 f3 f4 f5 : HexFault) (r s : Record)
    → (if a then Err f1 else if b then Err f2 else if c then Err f3 else if d then Err f4 else if e then Err f5 else Ok r) ≡ Ok s → r ≡ s
by_tests true b c d e f1 f2 f3 f4 f5 r s is = cc
by_tests false true c d e f1 f2 f3 f4 f5 r s is = cc
by_tests false false true d e f1 f2 f3 f4 f5 r s is = cc
by_tests false false false true e f1 f2 f3 f4 f5 r s is = cc
by_tests false false false false true f1 f2 f3 f4 f5 r s is = cc
by_tests false false false false false f1 f2 f3 f4 f5 r s is = cc

-- whether a byte is a hexadecimal digit
abbrev is_digit : ℕ → Bool
is_digit c =
    is_some (if nat_le 65 c && nat_le c 70 then Some (c - 55) else if nat_le 97 c && nat_le c 102 then Some (c - 87)
    else if nat_le 48 c && nat_le c 57 then Some (c - 48) else None)

record_small : (n : ℕ) (line : List ℕ) (r : Record) → record_of n line ≡ Ok r → AreBytes r.bytes
unfolding record_of
record_small n line r is =
    let bytes = pair_bytes (drop 1 line) in
    let same : fields n bytes ≡ r = by_tests (not (slice_index line 0 == 58)) (not (list_all is_digit (drop 1 line))) (not (has_length (drop 1 line))) (not (has_sum (drop 1 line)))
    (nat_lt 5 (type_field bytes)) (NoColon n) (BadDigit n) (BadLength n) (BadSum n) (BadType n) (fields n bytes) r is in
    subst (λ (s : Record). AreBytes s.bytes) same (small_take (length_field bytes) (drop 4 bytes) (small_drop 4 bytes (pairs_small (drop 1 line))))

records_small : (lines : List (ℕ × List ℕ)) (records : List Record) (place : ℕ) (r : Record) → map record_at lines ≡ map Ok records → slice_get records place ≡ Some r
    → AreBytes r.bytes
records_small [] [] place r each here = cc
records_small [] (s ∷ records) place r each here = cc
records_small (l ∷ lines) [] place r each here = cc
records_small (l ∷ lines) (s ∷ records) zero r each here =
    let first : record_at l ≡ Ok s = cc in
    let same : s ≡ r = cc in
    record_small l.0 l.1 r (first ∙ ap Ok same)
records_small (l ∷ lines) (s ∷ records) (suc place) r each here =
    let later : map record_at lines ≡ map Ok records = cc in
    records_small lines records place r later here

text_bytes : (text : List ℕ) (image : Pairs) → IsImage text image → GivesBytes image
text_bytes text image is a byte there =
    let puts = is.given a byte there in
    let small = records_small _ is.records puts.place puts.line is.accepted.each puts.here in
    let value : slice_index puts.line.bytes puts.lays.index ≡ byte = get_or_from_slice_get puts.line.bytes puts.lays.index byte 0 puts.lays.byte_is in
    let bound = small puts.lays.index in
    omega (arith, value, bound)

pub image_bytes : (given : Option Pairs) (text : List ℕ) (image : Pairs) → ImageSays given text image → GivesBytes image
image_bytes None text image is = text_bytes text image is
image_bytes (Some its) text image is = is.1
