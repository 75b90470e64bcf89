-- The data records written so far.
use Rattle.std.proofs.Common.{◌≡◌, ℕ, ◌+◌, ◌-◌, ◌/◌, ◌<◌, ◌≤◌, ◌⊎◌, inl, inr, List, [], ◌∷◌, ◌++◌, length, take, drop, take_all, map, Option, sym, ap, subst, ◌∙◌, append-nil, arith, min, length-drop}
use Rattle.std.specs.List.{range_with_len}
use Rattle.std.specs.Io.KnownBytes.{Appends}
use Rattle.std.proofs.lemmas.Bool.{cases_lt}
use Rattle.std.proofs.lemmas.Grind.{flat_map-append}
use Rattle.std.proofs.lemmas.List.FromFn.{map-range_with_len_more, take-map-range_with_len, get_or-map-range_with_len, length-map-range_with_len}
use Rattle.nor_base.specs.Device.{Cuts}
use Rattle.nor_base.proofs.DeviceLaws.{Appends-append, Cuts-at}
use Rattle.nor_hex.specs.WrittenRecords.{Entry, of_data, record_text}
use Rattle.nor_hex.specs.WrittenSegments.{row, rows, text_of}

-- the first n of them
abbrev pub first_rows : ℕ → List ℕ → ℕ → List ℕ
first_rows offset bytes n = text_of (map (row offset bytes) (range_with_len 0 n))

pub all_rows : (offset : ℕ) (bytes : List ℕ) (n : ℕ) → n ≡ (length bytes + 31) / 32 → first_rows offset bytes n ≡ text_of (rows offset bytes)
unfolding rows
all_rows offset bytes n is = ap (first_rows offset bytes) is

-- a part up to where the bytes end is as good as one past there
pub same_part : (xs : List ℕ) (place last : ℕ) → place ≤ length xs → last ≡ min (length xs) (place + 32) → take (last - place) (drop place xs) ≡ take 32 (drop place xs)
same_part xs place last within is = by (cases_lt (length xs) (place + 32))
  where
    by : (length xs < place + 32) ⊎ (place + 32 ≤ length xs) → take (last - place) (drop place xs) ≡ take 32 (drop place xs)
    by (inl short) =
        let fits : length (drop place xs) ≤ last - place = omega (arith, length-drop place xs) in
        let all : length (drop place xs) ≤ 32 = omega (arith, length-drop place xs) in
        take_all (last - place) (drop place xs) fits ∙ sym (take_all 32 (drop place xs) all)
    by (inr full) = let same : last - place ≡ 32 = omega arith in ap (λ n. take n (drop place xs)) same

pub more_rows : (offset : ℕ) (bytes : List ℕ) (n : ℕ) (a b c : Option (List ℕ)) → Appends a b (first_rows offset bytes n) → Appends b c (record_text (row offset bytes n))
    → Appends a c (first_rows offset bytes (n + 1))
more_rows offset bytes n a b c so_far this =
    let same : 0 + n ≡ n = omega arith in
    subst (Appends a c)
    (ap (λ text. first_rows offset bytes n ++ text) (sym (append-nil (record_text (row offset bytes n))))
    ∙ sym (flat_map-append record_text (map (row offset bytes) (range_with_len 0 n)) (row offset bytes n ∷ []))
    ∙ ap text_of (sym (map-range_with_len_more (row offset bytes) 0 n n same)))
    (Appends-append a b c (first_rows offset bytes n) (record_text (row offset bytes n)) so_far this)

abbrev none : Entry
none = of_data 0 []

pub cut_row : (offset : ℕ) (bytes : List ℕ) (n : ℕ) (a b c : Option (List ℕ)) → n < (length bytes + 31) / 32 → Appends a b (first_rows offset bytes n)
    → Cuts b c (record_text (row offset bytes n)) → Cuts a c (text_of (rows offset bytes))
unfolding rows
cut_row offset bytes n a b c below so_far cut =
    let count = (length bytes + 31) / 32 in
    let all = map (row offset bytes) (range_with_len 0 count) in
    let within : n < length all = omega (arith, below, length-map-range_with_len (row offset bytes) 0 count) in
    let fits : n ≤ count = omega (arith, below) in
    let same : 0 + n ≡ n = omega arith in
    Cuts-at record_text all none n a b c within
    (subst (λ entries. Appends a b (text_of entries)) (sym (take-map-range_with_len (row offset bytes) 0 count n fits)) so_far)
    (subst (λ entry. Cuts b c (record_text entry)) (sym (get_or-map-range_with_len (row offset bytes) 0 count n n none below same)) cut)
