-- Which records the segments have: of bytes in one segment, and of two parts.
use Rattle.std.proofs.Common.{◌≡◌, ℕ, zero, suc, ◌+◌, ◌-◌, ◌*◌, ◌/◌, ◌%◌, ◌<◌, ◌≤◌, ◌⊎◌, inl, inr, List, [], ◌∷◌, ◌++◌, length, take, drop, take_all, refl, sym, ap, ◌∙◌, append_assoc, append-nil, arith}
use Rattle.std.specs.Prelude.{flat_map}
use Rattle.std.specs.List.{range_with_len}
use Rattle.std.proofs.Math.Seq.{take-append-add, drop-append-add}
use Rattle.std.proofs.lemmas.Bool.{cases_lt}
use Rattle.std.proofs.lemmas.List.{take-append-le, drop_all}
use Rattle.nor_hex.specs.WrittenRecords.{Entry}
use Rattle.nor_hex.specs.WrittenSegments.{part_records, bytes_in, segment_records, first_segments}

flat_map_last : (f : ℕ → List Entry) (a n : ℕ) → flat_map f (range_with_len a (suc n)) ≡ flat_map f (range_with_len a n) ++ f (a + n)
flat_map_last f a zero = let same : a ≡ a + 0 = omega arith in append-nil (f a) ∙ ap f same
flat_map_last f a (suc n) =
    let same : a + 1 + n ≡ a + suc n = omega arith in
    ap (λ rest. f a ++ rest) (flat_map_last f (a + 1) n)
    ∙ sym (append_assoc (f a) (flat_map f (range_with_len (a + 1) n)) (f (a + 1 + n)))
    ∙ ap (λ k. (f a ++ flat_map f (range_with_len (a + 1) n)) ++ f k) same

pub no_segment : (at : ℕ) (bytes : List ℕ) → first_segments 0 at bytes ≡ []
unfolding first_segments
no_segment at bytes = refl

pub one_segment_more : (n at : ℕ) (bytes : List ℕ) → first_segments (suc n) at bytes ≡ first_segments n at bytes ++ segment_records at bytes n
unfolding first_segments
one_segment_more n at bytes =
    let same : 0 + n ≡ n = omega arith in
    flat_map_last (segment_records at bytes) 0 n ∙ ap (λ k. flat_map (segment_records at bytes) (range_with_len 0 n) ++ segment_records at bytes k) same

drop_none : (k : ℕ) (xs : List ℕ) → xs ≡ [] → drop k xs ≡ []
drop_none zero xs is = is
drop_none (suc k) [] is = refl
drop_none (suc k) (x ∷ xs) is = absurd cc

few_taken : (n : ℕ) (xs : List ℕ) → length (take n xs) ≤ length xs
few_taken zero xs = omega arith
few_taken (suc n) [] = omega arith
few_taken (suc n) (x ∷ xs) = omega (arith, few_taken n xs)

pub no_segment_of_none : (n at : ℕ) → first_segments n at [] ≡ []
no_segment_of_none zero at = no_segment at []
no_segment_of_none (suc n) at =
    one_segment_more n at [] ∙ ap (λ es. es ++ segment_records at [] n) (no_segment_of_none n at)
    ∙ ap (part_records (at + (n * 65536 - at))) (drop_all (n * 65536 - at) (take ((n + 1) * 65536 - at) []) (omega (arith, few_taken ((n + 1) * 65536 - at) [])))

take_none : (n : ℕ) (xs : List ℕ) → n ≡ 0 → take n xs ≡ []
take_none zero xs is = refl
take_none (suc n) xs is = absurd (omega arith)

-- a segment that ends before the bytes begin, and one that begins past them, has none
none_below : (at : ℕ) (bytes : List ℕ) (n : ℕ) → (n + 1) * 65536 ≤ at → segment_records at bytes n ≡ []
none_below at bytes n low =
    let nothing : (n + 1) * 65536 - at ≡ 0 = omega arith in
    ap (part_records (at + (n * 65536 - at))) (drop_none (n * 65536 - at) (take ((n + 1) * 65536 - at) bytes) (take_none ((n + 1) * 65536 - at) bytes nothing))

none_past : (at : ℕ) (bytes : List ℕ) (n : ℕ) → at + length bytes ≤ n * 65536 → segment_records at bytes n ≡ []
none_past at bytes n past =
    ap (part_records (at + (n * 65536 - at))) (drop_all (n * 65536 - at) (take ((n + 1) * 65536 - at) bytes) (omega (arith, few_taken ((n + 1) * 65536 - at) bytes)))

none_so_far : (at : ℕ) (bytes : List ℕ) (n : ℕ) → n * 65536 ≤ at → first_segments n at bytes ≡ []
none_so_far at bytes zero low = no_segment at bytes
none_so_far at bytes (suc n) low =
    let below : (n + 1) * 65536 ≤ at = omega arith in
    let under : n * 65536 ≤ at = omega arith in
    one_segment_more n at bytes ∙ ap (λ front. front ++ segment_records at bytes n) (none_so_far at bytes n under) ∙ none_below at bytes n below

-- ---- bytes in one segment
module _ (at : ℕ) (bytes : List ℕ) (inside : at % 65536 + length bytes ≤ 65536) where
  here : segment_records at bytes (at / 65536) ≡ part_records at bytes
  here =
      let low : at / 65536 * 65536 - at ≡ 0 = omega arith in
      let first : at + (at / 65536 * 65536 - at) ≡ at = omega arith in
      let all : length bytes ≤ (at / 65536 + 1) * 65536 - at = omega arith in
      ap (λ k. part_records (at + (at / 65536 * 65536 - at)) (drop k (take ((at / 65536 + 1) * 65536 - at) bytes))) low
      ∙ ap (part_records (at + (at / 65536 * 65536 - at))) (take_all ((at / 65536 + 1) * 65536 - at) bytes all)
      ∙ ap (λ a. part_records a bytes) first

  up_to : (more : ℕ) → first_segments (at / 65536 + suc more) at bytes ≡ part_records at bytes
  up_to zero =
      let next : at / 65536 + 1 ≡ suc (at / 65536) = omega arith in
      let low : at / 65536 * 65536 ≤ at = omega arith in
      ap (λ n. first_segments n at bytes) next ∙ one_segment_more (at / 65536) at bytes
      ∙ ap (λ front. front ++ segment_records at bytes (at / 65536)) (none_so_far at bytes (at / 65536) low) ∙ here
  up_to (suc more) =
      let next : at / 65536 + suc (suc more) ≡ suc (at / 65536 + suc more) = omega arith in
      let past : at + length bytes ≤ (at / 65536 + suc more) * 65536 = omega arith in
      ap (λ n. first_segments n at bytes) next ∙ one_segment_more (at / 65536 + suc more) at bytes
      ∙ ap (λ last. first_segments (at / 65536 + suc more) at bytes ++ last) (none_past at bytes (at / 65536 + suc more) past)
      ∙ append-nil (first_segments (at / 65536 + suc more) at bytes) ∙ up_to more

  pub one_part : (n : ℕ) → at < n * 65536 → first_segments n at bytes ≡ part_records at bytes
  one_part n below =
      let is : n ≡ at / 65536 + suc (n - suc (at / 65536)) = omega arith in
      ap (λ m. first_segments m at bytes) is ∙ up_to (n - suc (at / 65536))

-- ---- two parts, of which the second begins a segment
module _ (at : ℕ) (front rest : List ℕ) (k : ℕ) (seam : at + length front ≡ k * 65536) where
  in_front : (n : ℕ) → n < k → segment_records at (front ++ rest) n ≡ segment_records at front n
  in_front n below =
      let fits : (n + 1) * 65536 - at ≤ length front = omega arith in
      ap (λ xs. part_records (at + (n * 65536 - at)) (drop (n * 65536 - at) xs)) (take-append-le ((n + 1) * 65536 - at) front rest fits)

  in_rest : (n : ℕ) → k ≤ n → segment_records at (front ++ rest) n ≡ segment_records (at + length front) rest n
  in_rest n past =
      let first : at + (n * 65536 - at) ≡ at + length front + (n * 65536 - (at + length front)) = omega arith in
      let whole : (n + 1) * 65536 - at ≡ length front + ((n + 1) * 65536 - (at + length front)) = omega arith in
      let skipped : n * 65536 - at ≡ length front + (n * 65536 - (at + length front)) = omega arith in
      ap (λ a. part_records a (bytes_in at (front ++ rest) n)) first
      ∙ ap (part_records (at + length front + (n * 65536 - (at + length front))))
      (ap (λ t. drop (n * 65536 - at) (take t (front ++ rest))) whole
      ∙ ap (drop (n * 65536 - at)) (take-append-add front rest ((n + 1) * 65536 - (at + length front)))
      ∙ ap (λ d. drop d (front ++ take ((n + 1) * 65536 - (at + length front)) rest)) skipped
      ∙ drop-append-add front (take ((n + 1) * 65536 - (at + length front)) rest) (n * 65536 - (at + length front)))

  pub joined : (n : ℕ) → first_segments n at (front ++ rest) ≡ first_segments n at front ++ first_segments n (at + length front) rest
  joined zero = no_segment at (front ++ rest) ∙ sym (ap (λ xs. xs ++ first_segments 0 (at + length front) rest) (no_segment at front) ∙ no_segment (at + length front) rest)
  joined (suc n) = one_segment_more n at (front ++ rest) ∙ ap (λ xs. xs ++ segment_records at (front ++ rest) n) (joined n) ∙ by (cases_lt n k)
    where
      by : (n < k) ⊎ (k ≤ n) → (first_segments n at front ++ first_segments n (at + length front) rest) ++ segment_records at (front ++ rest) n
          ≡ first_segments (suc n) at front ++ first_segments (suc n) (at + length front) rest
      by (inl below) =
          let low : n * 65536 ≤ at + length front = omega arith in
          let next : suc n * 65536 ≤ at + length front = omega arith in
          ap (λ xs. (first_segments n at front ++ xs) ++ segment_records at (front ++ rest) n) (none_so_far (at + length front) rest n low)
          ∙ ap (λ xs. xs ++ segment_records at (front ++ rest) n) (append-nil (first_segments n at front))
          ∙ ap (λ xs. first_segments n at front ++ xs) (in_front n below)
          ∙ sym (one_segment_more n at front)
          ∙ sym (append-nil (first_segments (suc n) at front))
          ∙ ap (λ xs. first_segments (suc n) at front ++ xs) (sym (none_so_far (at + length front) rest (suc n) next))
      by (inr past) =
          let far : at + length front ≤ n * 65536 = omega arith in
          append_assoc (first_segments n at front) (first_segments n (at + length front) rest) (segment_records at (front ++ rest) n)
          ∙ ap (λ xs. first_segments n at front ++ (first_segments n (at + length front) rest ++ xs)) (in_rest n past)
          ∙ ap (λ xs. first_segments n at front ++ xs) (sym (one_segment_more n (at + length front) rest))
          ∙ ap (λ xs. xs ++ first_segments (suc n) (at + length front) rest)
          (sym (one_segment_more n at front ∙ ap (λ last. first_segments n at front ++ last) (none_past at front n far) ∙ append-nil (first_segments n at front)))
