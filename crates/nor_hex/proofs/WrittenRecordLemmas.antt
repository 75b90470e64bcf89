-- What is written of a record is that record again.
use Rattle.std.proofs.Common.{◌≡◌, ℕ, ◌+◌, ◌-◌, ◌/◌, ◌%◌, ◌<◌, ◌≤◌, true, List, [], ◌∷◌, ◌++◌, length, map, Ok, refl, ap, ◌∙◌, arith, length-append, sum, zero-add}
use Rattle.std.specs.Prelude.{flat_map, nat_lt, ◌↔◌}
use Rattle.std.specs.List.{AllByRecursion, enumerate_from}
use Rattle.std.proofs.lemmas.List.Folds.{list_all-append}
use Rattle.std.proofs.lemmas.List.Sums.{sum_by-append}
use Rattle.hex.specs.Hex.{encode_upper, upper_digits}
use Rattle.hex.proofs.HexLemmas.{length-encode_with}
use Rattle.nor_base.specs.Array.{are_bytes}
use Rattle.nor_base.specs.Script.{closed}
use Rattle.nor_hex.specs.Record.{Record, IsRecord, record_of, fits_type, pair_bytes}
use Rattle.nor_hex.specs.Records.{record_at, line_records}
use Rattle.nor_lines.specs.Lines.{filled_lines}
use Rattle.nor_hex.specs.WrittenRecords.{Entry, fields, checksum, record_bytes, record_line, record_text}
use Rattle.nor_hex.specs.WrittenSegments.{text_of}
use Rattle.nor_hex.proofs.DigitLemmas.{digits_spell, all_digits, all_high, both_true}
use Rattle.nor_hex.proofs.LineLemmas.{IsLine, lines_back}

-- the entry fits into a record
pub record IsGood (entry : Entry) : Type 0 where
  pub known : entry.kind ≤ 5
  pub offset : entry.offset < 65536
  pub few : length entry.bytes < 256
  pub bytes : are_bytes entry.bytes ≡ true
  pub fits : fits_type entry.kind (length entry.bytes) ≡ true

-- the entry as the record of a line
abbrev pub at_line : ℕ → Entry → Record
at_line n entry = record { kind = entry.kind; offset = entry.offset; bytes = entry.bytes; line = n }

abbrev pub numbered : ℕ → List Entry → List Record
numbered n [] = []
numbered n (entry ∷ entries) = at_line n entry ∷ numbered (n + 1) entries

below : (n : ℕ) → n < 256 → nat_lt n 256 ≡ true
below n is = grind arith

all_bytes : (entry : Entry) → IsGood entry → are_bytes (record_bytes entry) ≡ true
all_bytes entry is =
    let offset : entry.offset < 65536 = is.offset in
    let high : entry.offset / 256 < 256 = omega arith in
    let low : entry.offset % 256 < 256 = omega arith in
    let kind : entry.kind < 256 = omega (arith, is.known) in
    let last : checksum entry < 256 = omega arith in
    both_true _ _ (below (length entry.bytes) is.few) (both_true _ _ (below (entry.offset / 256) high) (both_true _ _ (below (entry.offset % 256) low)
    (both_true _ _ (below entry.kind kind)
    (list_all-append (λ n. nat_lt n 256) entry.bytes (checksum entry ∷ []) ∙ both_true _ _ is.bytes (both_true _ _ (below (checksum entry) last) refl)))))

sum_append : (xs : List ℕ) (y : ℕ) → sum (xs ++ y ∷ []) ≡ sum xs + y
sum_append xs y = sum_by-append (λ v. v) xs (y ∷ []) ∙ ap (λ s. sum xs + s) (one y)
  where
    one : (y : ℕ) → sum (y ∷ []) ≡ y
    one y = zero-add y

sound : (s : ℕ) → (s + (256 - s % 256) % 256) % 256 ≡ 0
sound s = omega arith

pub is_line : (entry : Entry) → IsGood entry → IsLine (record_line entry)
is_line entry is = record { some = omega arith; high = both_true _ _ refl (all_high (record_bytes entry) (all_bytes entry is)) }

is_record : (n : ℕ) (entry : Entry) → IsGood entry → IsRecord n (record_line entry) (at_line n entry)
is_record n entry is = record {
  digits = encode_upper (record_bytes entry);
  high = entry.offset / 256;
  low = entry.offset % 256;
  checksum = checksum entry;
  colon = refl;
  all_digits = all_digits (record_bytes entry) (all_bytes entry is);
  pairs = omega (arith, length-encode_with upper_digits (record_bytes entry), length-append entry.bytes (checksum entry ∷ []));
  spelled = spelled;
  offset_is = omega arith;
  fits = is.fits;
  known = is.known;
  sum_is = ap (λ bytes. sum bytes % 256) spelled ∙ ap (λ s. s % 256) (sum_append (fields entry) (checksum entry)) ∙ sound (sum (fields entry));
  line_is = refl;
}
  where
    spelled : pair_bytes (encode_upper (record_bytes entry)) ≡ record_bytes entry
    spelled = digits_spell (record_bytes entry) (all_bytes entry is)

-- `record_of` in the format's words
abbrev pub SaysRecords : Type 0
SaysRecords = (n : ℕ) (line : List ℕ) (this : Record) → (record_of n line ≡ Ok this) ↔ IsRecord n line this

each_back : (says : SaysRecords) (n : ℕ) (entries : List Entry) → AllByRecursion IsGood entries
    → map record_at (enumerate_from n (map record_line entries)) ≡ map Ok (numbered n entries)
each_back says n [] all = refl
each_back says n (entry ∷ entries) all =
    ap (λ first. first ∷ map record_at (enumerate_from (n + 1) (map record_line entries))) ((says n (record_line entry) (at_line n entry)).1 (is_record n entry all.0))
    ∙ ap (λ rest. Ok (at_line n entry) ∷ rest) (each_back says (n + 1) entries all.1)

are_lines : (entries : List Entry) → AllByRecursion IsGood entries → AllByRecursion IsLine (map record_line entries)
are_lines [] all = tt
are_lines (entry ∷ entries) all = (is_line entry all.0, are_lines entries all.1)

text_is : (entries : List Entry) → text_of entries ≡ flat_map closed (map record_line entries)
unfolding record_text
text_is [] = refl
text_is (entry ∷ entries) = ap (λ rest. closed (record_line entry) ++ rest) (text_is entries)

-- a text that was written has these records
pub records_back : (says : SaysRecords) (entries : List Entry) → AllByRecursion IsGood entries → line_records (text_of entries) ≡ map Ok (numbered 1 entries)
records_back says entries all =
    ap (λ text. map record_at (filled_lines text)) (text_is entries)
    ∙ ap (map record_at) (lines_back (map record_line entries) (are_lines entries all))
    ∙ each_back says 1 entries all

-- a line is that of its bytes
pub line_put : (entry : Entry) (text bytes : List ℕ) → text ≡ 0x3A ∷ (encode_upper bytes ++ 0x0A ∷ []) → bytes ≡ record_bytes entry → text ≡ record_text entry
unfolding record_text
line_put entry text bytes is same = is ∙ ap (λ bs. 0x3A ∷ (encode_upper bs ++ 0x0A ∷ [])) same
