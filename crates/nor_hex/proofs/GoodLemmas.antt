-- Each record of a written text fits its form, and none but the last is the end.
use Rattle.std.proofs.Common.{◌≡◌, ◌⊎◌, inl, inr, ℕ, zero, suc, ◌+◌, ◌-◌, ◌*◌, ◌/◌, ◌%◌, ◌<◌, ◌≤◌, ◌^◌, Bool, true, false, List, [], ◌∷◌, ◌++◌, length, take, drop, map, refl, sym, ap, subst, ◌∙◌, arith, length-drop}
use Rattle.std.specs.Prelude.{nat_lt, ◌==◌, ◌||◌}
use Rattle.std.specs.List.{AllByRecursion, list_any, range_with_len}
use Rattle.std.proofs.lemmas.Bool.{and_parts, cases_lt}
use Rattle.nor_base.specs.Array.{are_bytes}
use Rattle.nor_base.proofs.ListLaws.{all_append}
use Rattle.nor_hex.specs.Faults.{is_end}
use Rattle.nor_hex.specs.WrittenRecords.{Entry, linear, end_record}
use Rattle.nor_hex.specs.WrittenSegments.{row, rows, part_records, bytes_in, segment_records, first_segments}
use Rattle.nor_hex.proofs.DigitLemmas.{both_true}
use Rattle.nor_hex.proofs.WrittenRecordLemmas.{IsGood, at_line, numbered}
use Rattle.nor_hex.proofs.WrittenSegmentLemmas.{no_segment, one_segment_more}

-- it is no end record
pub record IsInner (entry : Entry) : Type 0 where
  pub good : IsGood entry
  pub other : (entry.kind == 1) ≡ false

pub all_good : (es : List Entry) → AllByRecursion IsInner es → AllByRecursion IsGood es
all_good [] all = tt
all_good (e ∷ es) all = (all.0.good, all_good es all.1)

pub bytes_dropped : (k : ℕ) (xs : List ℕ) → are_bytes xs ≡ true → are_bytes (drop k xs) ≡ true
bytes_dropped zero xs all = all
bytes_dropped (suc k) [] all = refl
bytes_dropped (suc k) (x ∷ xs) all = bytes_dropped k xs (and_parts (nat_lt x 256) (are_bytes xs) all).1

pub bytes_taken : (k : ℕ) (xs : List ℕ) → are_bytes xs ≡ true → are_bytes (take k xs) ≡ true
bytes_taken zero xs all = refl
bytes_taken (suc k) [] all = refl
bytes_taken (suc k) (x ∷ xs) all = let parts = and_parts (nat_lt x 256) (are_bytes xs) all in both_true _ _ parts.0 (bytes_taken k xs parts.1)

pub at_most : (n : ℕ) (xs : List ℕ) → length (take n xs) ≤ n
at_most zero xs = omega arith
at_most (suc n) [] = omega arith
at_most (suc n) (x ∷ xs) = omega (arith, at_most n xs)

pub no_more : (n : ℕ) (xs : List ℕ) → length (take n xs) ≤ length xs
no_more zero xs = omega arith
no_more (suc n) [] = omega arith
no_more (suc n) (x ∷ xs) = omega (arith, no_more n xs)

small : (n : ℕ) → n < 256 → nat_lt n 256 ≡ true
small n is = grind arith

module _ (offset : ℕ) (bytes : List ℕ) (all : are_bytes bytes ≡ true) (inside : offset + length bytes ≤ 65536) where
  good_row : (n : ℕ) → n < (length bytes + 31) / 32 → IsInner (row offset bytes n)
  good_row n below =
      let few : length (take 32 (drop (32 * n) bytes)) ≤ 32 = at_most 32 (drop (32 * n) bytes) in
      record {
        good = record {
          known = omega arith;
          offset = omega (arith, below, inside);
          few = omega (arith, few);
          bytes = bytes_taken 32 (drop (32 * n) bytes) (bytes_dropped (32 * n) bytes all);
          fits = refl;
        };
        other = refl;
      }

  good_from : (i n : ℕ) → i + n ≤ (length bytes + 31) / 32 → AllByRecursion IsInner (map (row offset bytes) (range_with_len i n))
  good_from i zero to = tt
  good_from i (suc n) to = (good_row i (omega (arith, to)), good_from (i + 1) n (omega (arith, to)))

  good_rows : AllByRecursion IsInner (rows offset bytes)
  unfolding rows
  good_rows = good_from 0 ((length bytes + 31) / 32) (omega arith)

good_linear : (upper : ℕ) → upper < 65536 → IsInner (linear upper)
good_linear upper fits =
    let high : upper / 256 < 256 = omega arith in
    let low : upper % 256 < 256 = omega arith in
    record {
      good = record {
        known = omega arith;
        offset = omega arith;
        few = omega arith;
        bytes = both_true _ _ (small (upper / 256) high) (both_true _ _ (small (upper % 256) low) refl);
        fits = refl;
      };
      other = refl;
    }

good_part : (at : ℕ) (bytes : List ℕ) → are_bytes bytes ≡ true → (0 < length bytes → at < 2 ^ 32) → at % 65536 + length bytes ≤ 65536 → AllByRecursion IsInner (part_records at bytes)
good_part at [] all fits inside = tt
good_part at (x ∷ xs) all fits inside =
    let low : at < 2 ^ 32 = fits (omega arith) in
    (good_linear (at / 65536) (omega (arith, low)), good_rows (at % 65536) (x ∷ xs) all inside)

-- the bytes of a segment
pub fits_below : (at : ℕ) (bytes : List ℕ) (n : ℕ) → at + length bytes ≤ 2 ^ 32 → 0 < length (bytes_in at bytes n)
    → at + (n * 65536 - at) + length (bytes_in at bytes n) ≤ 2 ^ 32
fits_below at bytes n fits some =
    omega (arith, fits, some, length-drop (n * 65536 - at) (take ((n + 1) * 65536 - at) bytes), no_more ((n + 1) * 65536 - at) bytes)

inside_segment : (at : ℕ) (bytes : List ℕ) (n : ℕ) → (at + (n * 65536 - at)) % 65536 + length (bytes_in at bytes n) ≤ 65536
inside_segment at bytes n = by (cases_lt ((n + 1) * 65536) at)
  where
    long : length (bytes_in at bytes n) ≡ length (take ((n + 1) * 65536 - at) bytes) - (n * 65536 - at)
    long = length-drop (n * 65536 - at) (take ((n + 1) * 65536 - at) bytes)

    most : length (take ((n + 1) * 65536 - at) bytes) ≤ (n + 1) * 65536 - at
    most = at_most ((n + 1) * 65536 - at) bytes

    by : ((n + 1) * 65536 < at) ⊎ (at ≤ (n + 1) * 65536) → (at + (n * 65536 - at)) % 65536 + length (bytes_in at bytes n) ≤ 65536
    by (inl past) = omega (arith, long, most, past)
    by (inr reached) = on (cases_lt at (n * 65536))
      where
        on : (at < n * 65536) ⊎ (n * 65536 ≤ at) → (at + (n * 65536 - at)) % 65536 + length (bytes_in at bytes n) ≤ 65536
        on (inl early) = omega (arith, long, most, early)
        on (inr late) = omega (arith, long, most, late, reached)

good_segment : (at : ℕ) (bytes : List ℕ) (n : ℕ) → are_bytes bytes ≡ true → at + length bytes ≤ 2 ^ 32 → AllByRecursion IsInner (segment_records at bytes n)
good_segment at bytes n all fits =
    good_part (at + (n * 65536 - at)) (bytes_in at bytes n) (bytes_dropped (n * 65536 - at) (take ((n + 1) * 65536 - at) bytes) (bytes_taken ((n + 1) * 65536 - at) bytes all))
    (λ some. omega (arith, some, fits_below at bytes n fits some)) (inside_segment at bytes n)

pub good_segments : (n at : ℕ) (bytes : List ℕ) → are_bytes bytes ≡ true → at + length bytes ≤ 2 ^ 32 → AllByRecursion IsInner (first_segments n at bytes)
good_segments zero at bytes all fits = subst (AllByRecursion IsInner) (sym (no_segment at bytes)) tt
good_segments (suc n) at bytes all fits =
    subst (AllByRecursion IsInner) (sym (one_segment_more n at bytes))
    (all_append IsInner (first_segments n at bytes) (segment_records at bytes n) (good_segments n at bytes all fits) (good_segment at bytes n all fits))

pub good_end : IsGood end_record
good_end = record { known = omega arith; offset = omega arith; few = omega arith; bytes = refl; fits = refl }

-- the end comes last
pub no_end : (n : ℕ) (es : List Entry) → AllByRecursion IsInner es → list_any is_end (numbered n es) ≡ false
no_end n [] all = refl
no_end n (e ∷ es) all = neither (e.kind == 1) (list_any is_end (numbered (n + 1) es)) all.0.other (no_end (n + 1) es all.1)
  where
    neither : (a b : Bool) → a ≡ false → b ≡ false → (a || b) ≡ false
    neither a b p q = rw (p, q) refl

pub some_end : (n : ℕ) (es : List Entry) → list_any is_end (numbered n (es ++ end_record ∷ [])) ≡ true
some_end n [] = refl
some_end n (e ∷ es) = either (e.kind == 1) (list_any is_end (numbered (n + 1) (es ++ end_record ∷ []))) (some_end (n + 1) es)
  where
    either : (a b : Bool) → b ≡ true → (a || b) ≡ true
    either true b q = refl
    either false b q = q

pub all_but_last : (n : ℕ) (es : List Entry) → take (length (numbered n (es ++ end_record ∷ [])) - 1) (numbered n (es ++ end_record ∷ [])) ≡ numbered n es
all_but_last n es = let count : length (numbered n (es ++ end_record ∷ [])) - 1 ≡ length es = omega (arith, longer n es) in
    ap (λ k. take k (numbered n (es ++ end_record ∷ []))) count ∙ front n es
  where
    longer : (n : ℕ) (es : List Entry) → length (numbered n (es ++ end_record ∷ [])) ≡ length es + 1
    longer n [] = refl
    longer n (e ∷ es) = omega (arith, longer (n + 1) es)

    front : (n : ℕ) (es : List Entry) → take (length es) (numbered n (es ++ end_record ∷ [])) ≡ numbered n es
    front n [] = refl
    front n (e ∷ es) = ap (λ rest. at_line n e ∷ rest) (front (n + 1) es)
