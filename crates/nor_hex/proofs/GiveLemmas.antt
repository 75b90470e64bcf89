-- What records in a row lay, each where the base rules that those before it leave.
use Rattle.std.proofs.Common.{◌≡◌, ◌⊎◌, inl, inr, ℕ, zero, suc, ◌+◌, ◌-◌, ◌*◌, ◌/◌, ◌%◌, ◌<◌, ◌≤◌, ◌^◌, List, [], ◌∷◌, ◌++◌, length, take, drop, map, slice_get, Some, refl, sym, ap, subst, ◌∙◌, append_assoc, append-nil, arith}
use Rattle.std.specs.List.{range_with_len}
use Rattle.std.proofs.lemmas.Bool.{cases_lt}
use Rattle.std.proofs.lemmas.Option.{slice_get_within}
use Rattle.nor_hex.specs.Record.{Record}
use Rattle.nor_hex.specs.Image.{Lays, Puts, base_after, address_of}
use Rattle.nor_hex.specs.Steps.{base_past}
use Rattle.nor_hex.proofs.PutLemmas.{base_after-last}
use Rattle.nor_hex.specs.WrittenRecords.{Entry, linear}
use Rattle.nor_hex.specs.WrittenSegments.{row, rows, part_records}
use Rattle.nor_hex.proofs.WrittenRecordLemmas.{at_line, numbered}

-- the records that come after these, the first of them on line n, lay the byte at the address
abbrev pub Gives : ℕ → List Record → List Entry → ℕ → ℕ → Type 0
Gives n before [] a b = ⊥
Gives n before (e ∷ es) a b = Lays (base_after before) (at_line n e) a b ⊎ Gives (n + 1) (before ++ at_line n e ∷ []) es a b

one_base_more : (xs : List Record) (r : Record) → base_after (xs ++ r ∷ []) ≡ base_past (base_after xs) r
one_base_more xs r = sym (base_after-last xs r)

to_gives : (xs : List Record) (n : ℕ) (es : List Entry) (place : ℕ) (line : Record) (a b : ℕ) → slice_get (numbered n es) place ≡ Some line
    → Lays (base_after (xs ++ take place (numbered n es))) line a b → Gives n xs es a b
to_gives xs n [] place line a b here lays = absurd cc
to_gives xs n (e ∷ es) zero line a b here lays =
    let same : at_line n e ≡ line = cc in
    inl (subst (λ r. Lays (base_after xs) r a b) (sym same) (subst (λ earlier. Lays (base_after earlier) line a b) (append-nil xs) lays))
to_gives xs n (e ∷ es) (suc place) line a b here lays =
    let moved = subst (λ earlier. Lays (base_after earlier) line a b) (sym (append_assoc xs (at_line n e ∷ []) (take place (numbered (n + 1) es)))) lays in
    inr (to_gives (xs ++ at_line n e ∷ []) (n + 1) es place line a b here moved)

pub puts_gives : (es : List Entry) (a b : ℕ) → Puts (numbered 1 es) a b → Gives 1 [] es a b
puts_gives es a b puts = to_gives [] 1 es puts.place puts.line a b puts.here puts.lays

record IsFound (xs rs : List Record) (a b : ℕ) : Type 0 where
  place : ℕ
  line : Record
  here : slice_get rs place ≡ Some line
  lays : Lays (base_after (xs ++ take place rs)) line a b

from_gives : (xs : List Record) (n : ℕ) (es : List Entry) (a b : ℕ) → Gives n xs es a b → IsFound xs (numbered n es) a b
from_gives xs n [] a b g = absurd g
from_gives xs n (e ∷ es) a b (inl l) = record {
  place = 0;
  line = at_line n e;
  here = refl;
  lays = subst (λ earlier. Lays (base_after earlier) (at_line n e) a b) (sym (append-nil xs)) l;
}
from_gives xs n (e ∷ es) a b (inr g) =
    let f = from_gives (xs ++ at_line n e ∷ []) (n + 1) es a b g in
    record {
      place = suc f.place;
      line = f.line;
      here = f.here;
      lays = subst (λ earlier. Lays (base_after earlier) f.line a b) (append_assoc xs (at_line n e ∷ []) (take f.place (numbered (n + 1) es))) f.lays;
    }

pub gives_puts : (es : List Entry) (a b : ℕ) → Gives 1 [] es a b → Puts (numbered 1 es) a b
gives_puts es a b g = let f = from_gives [] 1 es a b g in record { place = f.place; line = f.line; here = f.here; lays = f.lays }

-- ---- one list behind another
abbrev pub GivesSomewhere : List Entry → ℕ → ℕ → Type 0
GivesSomewhere es a b = (n : ℕ) × (xs : List Record) × Gives n xs es a b

pub gives_split : (n : ℕ) (xs : List Record) (es fs : List Entry) (a b : ℕ) → Gives n xs (es ++ fs) a b → Gives n xs es a b ⊎ GivesSomewhere fs a b
gives_split n xs [] fs a b g = inr (n, xs, g)
gives_split n xs (e ∷ es) fs a b (inl l) = inl (inl l)
gives_split n xs (e ∷ es) fs a b (inr g) = elim (gives_split (n + 1) (xs ++ at_line n e ∷ []) es fs a b g) [ inl first ↦ inl (inr first) | inr second ↦ inr second ]

pub gives_first : (n : ℕ) (xs : List Record) (es fs : List Entry) (a b : ℕ) → Gives n xs es a b → Gives n xs (es ++ fs) a b
gives_first n xs [] fs a b g = absurd g
gives_first n xs (e ∷ es) fs a b (inl l) = inl l
gives_first n xs (e ∷ es) fs a b (inr g) = inr (gives_first (n + 1) (xs ++ at_line n e ∷ []) es fs a b g)

pub gives_second : (n : ℕ) (xs : List Record) (es fs : List Entry) (a b : ℕ) → ((m : ℕ) (ys : List Record) → Gives m ys fs a b) → Gives n xs (es ++ fs) a b
gives_second n xs [] fs a b g = g n xs
gives_second n xs (e ∷ es) fs a b g = inr (gives_second (n + 1) (xs ++ at_line n e ∷ []) es fs a b g)

-- ---- bytes from an address on
pub record Stands (at : ℕ) (bytes : List ℕ) (a b : ℕ) : Type 0 where
  pub past : at ≤ a
  pub is : slice_get bytes (a - at) ≡ Some b

pub get_taken : (xs : List ℕ) (n i x : ℕ) → slice_get (take n xs) i ≡ Some x → (i < n) × (slice_get xs i ≡ Some x)
get_taken xs zero i x e = absurd cc
get_taken [] (suc n) i x e = absurd cc
get_taken (y ∷ xs) (suc n) zero x e = (omega arith, e)
get_taken (y ∷ xs) (suc n) (suc i) x e = let found = get_taken xs n i x e in (omega (arith, found.0), found.1)

pub get-take : (xs : List ℕ) (n i x : ℕ) → i < n → slice_get xs i ≡ Some x → slice_get (take n xs) i ≡ Some x
get-take xs zero i x h e = absurd (omega arith)
get-take [] (suc n) i x h e = absurd cc
get-take (y ∷ xs) (suc n) zero x h e = e
get-take (y ∷ xs) (suc n) (suc i) x h e = get-take xs n i x (omega arith) e

pub get-drop : (xs : List ℕ) (d i j : ℕ) → j ≡ d + i → slice_get (drop d xs) i ≡ slice_get xs j
get-drop xs zero i j e = let same : i ≡ j = omega arith in ap (slice_get xs) same
get-drop [] (suc d) i j e = refl
get-drop (x ∷ xs) (suc d) i zero e = absurd (omega arith)
get-drop (x ∷ xs) (suc d) i (suc j) e = get-drop xs d i j (omega arith)

-- ---- data records
-- the linear base of this upper half rules after these records
abbrev Rules : ℕ → List Record → Type 0
Rules upper xs = (offset : ℕ) → address_of (base_after xs) offset ≡ (upper * 65536 + offset) % 2 ^ 32

module _ (upper offset : ℕ) (bytes : List ℕ) where
  still_rules : (xs : List Record) (m k : ℕ) → Rules upper xs → Rules upper (xs ++ at_line m (row offset bytes k) ∷ [])
  still_rules xs m k rules o = ap (λ base. address_of base o) (one_base_more xs (at_line m (row offset bytes k))) ∙ rules o

  -- a data record lays the byte there
  record OfRow (a b : ℕ) : Type 0 where
    n : ℕ
    index : ℕ
    byte_is : slice_get (take 32 (drop (32 * n) bytes)) index ≡ Some b
    address_is : (upper * 65536 + (offset + 32 * n + index)) % 2 ^ 32 ≡ a

  which_row : (i n m : ℕ) (xs : List Record) (a b : ℕ) → Rules upper xs → Gives m xs (map (row offset bytes) (range_with_len i n)) a b → OfRow a b
  which_row i zero m xs a b rules g = absurd g
  which_row i (suc n) m xs a b rules (inl l) = record { n = i; index = l.index; byte_is = l.byte_is; address_is = sym (rules (offset + 32 * i + l.index)) ∙ l.address_is }
  which_row i (suc n) m xs a b rules (inr g) = which_row (i + 1) n (m + 1) (xs ++ at_line m (row offset bytes i) ∷ []) a b (still_rules xs m i rules) g

  of_row : (i n m : ℕ) (xs : List Record) (a b : ℕ) → Rules upper xs → (r : OfRow a b) → i ≤ r.n → r.n < i + n → Gives m xs (map (row offset bytes) (range_with_len i n)) a b
  of_row i zero m xs a b rules r from to = absurd (omega (arith, from, to))
  of_row i (suc n) m xs a b rules r from to =
      by (cases_lt i r.n) (of_row (i + 1) n (m + 1) (xs ++ at_line m (row offset bytes i) ∷ []) a b (still_rules xs m i rules) r)
    where
      by : (i < r.n) ⊎ (r.n ≤ i) → (i + 1 ≤ r.n → r.n < i + 1 + n → Gives (m + 1) (xs ++ at_line m (row offset bytes i) ∷ []) (map (row offset bytes) (range_with_len (i + 1) n)) a b)
          → Gives m xs (map (row offset bytes) (range_with_len i (suc n))) a b
      by (inr reached) rest =
          let same : r.n ≡ i = omega (arith, from, reached) in
          inl (record {
            is_data = refl;
            index = r.index;
            byte_is = subst (λ k. slice_get (take 32 (drop (32 * k) bytes)) r.index ≡ Some b) same r.byte_is;
            address_is = rules (offset + 32 * i + r.index) ∙ subst (λ k. (upper * 65536 + (offset + 32 * k + r.index)) % 2 ^ 32 ≡ a) same r.address_is;
          })
      by (inl later) rest =
          let next : i + 1 ≤ r.n = omega (arith, later) in
          let still : r.n < i + 1 + n = omega (arith, to) in
          inr (rest next still)

  module _ (fits : upper * 65536 + offset + length bytes ≤ 2 ^ 32) where
    row_stands : (a b : ℕ) → OfRow a b → Stands (upper * 65536 + offset) bytes a b
    row_stands a b r =
        let found = get_taken (drop (32 * r.n) bytes) 32 r.index b r.byte_is in
        let whole : slice_get bytes (32 * r.n + r.index) ≡ Some b = sym (get-drop bytes (32 * r.n) r.index (32 * r.n + r.index) refl) ∙ found.1 in
        let below : 32 * r.n + r.index < length bytes = slice_get_within bytes (32 * r.n + r.index) b whole in
        let address = r.address_is in
        let exact : upper * 65536 + offset + (32 * r.n + r.index) ≡ a = omega (arith, address, below, fits) in
        let place : a - (upper * 65536 + offset) ≡ 32 * r.n + r.index = omega (arith, exact) in
        record { past = omega (arith, exact); is = ap (slice_get bytes) place ∙ whole }

    stands_row : (a b j : ℕ) → j ≡ a - (upper * 65536 + offset) → upper * 65536 + offset ≤ a → slice_get bytes j ≡ Some b → (r : OfRow a b) × (r.n < (length bytes + 31) / 32)
    stands_row a b j is past byte =
        let below : j < length bytes = slice_get_within bytes j b byte in
        let whole : j ≡ 32 * (j / 32) + j % 32 = omega arith in
        let exact : upper * 65536 + (offset + 32 * (j / 32) + j % 32) ≡ a = omega (arith, is, past, whole) in
        let low : upper * 65536 + (offset + 32 * (j / 32) + j % 32) < 2 ^ 32 = omega (arith, whole, below, fits) in (
          record {
            n = j / 32;
            index = j % 32;
            byte_is = get-take (drop (32 * (j / 32)) bytes) 32 (j % 32) b (omega arith) (get-drop bytes (32 * (j / 32)) (j % 32) j whole ∙ byte);
            address_is = omega (arith, exact, low);
          },
          omega (arith, below),
        )

    rows_stand : (m : ℕ) (xs : List Record) (a b : ℕ) → Rules upper xs → Gives m xs (rows offset bytes) a b → Stands (upper * 65536 + offset) bytes a b
    unfolding rows
    rows_stand m xs a b rules g = row_stands a b (which_row 0 ((length bytes + 31) / 32) m xs a b rules g)

    stand_in_rows : (m : ℕ) (xs : List Record) (a b : ℕ) → Rules upper xs → Stands (upper * 65536 + offset) bytes a b → Gives m xs (rows offset bytes) a b
    unfolding rows
    stand_in_rows m xs a b rules s =
        let found = stands_row a b (a - (upper * 65536 + offset)) refl s.past s.is in
        let below = found.1 in
        of_row 0 ((length bytes + 31) / 32) m xs a b rules found.0 (omega arith) (omega (arith, below))

-- ---- the records of a part
module _ (m at : ℕ) (xs : List Record) (bytes : List ℕ) where
  begins : Rules (at / 65536) (xs ++ at_line m (linear (at / 65536)) ∷ [])
  begins offset =
      let upper : at / 65536 / 256 * 256 + at / 65536 % 256 ≡ at / 65536 = omega arith in
      ap (λ base. address_of base offset) (one_base_more xs (at_line m (linear (at / 65536)))) ∙ ap (λ u. (u * 65536 + offset) % 2 ^ 32) upper

  from : at / 65536 * 65536 + at % 65536 ≡ at
  from = omega arith

  inside : at + length bytes ≤ 2 ^ 32 → at / 65536 * 65536 + at % 65536 + length bytes ≤ 2 ^ 32
  inside room = omega (arith, room)

pub part_stands : (m at : ℕ) (xs : List Record) (bytes : List ℕ) (a b : ℕ) → (0 < length bytes → at + length bytes ≤ 2 ^ 32) → Gives m xs (part_records at bytes) a b → Stands at bytes a b
part_stands m at xs [] a b fits g = absurd g
part_stands m at xs (y ∷ ys) a b fits (inl l) = let no : 4 ≡ 0 = l.is_data in absurd (omega (arith, no))
part_stands m at xs (y ∷ ys) a b fits (inr g) =
    subst (λ s. Stands s (y ∷ ys) a b) (from m at xs (y ∷ ys))
    (rows_stand (at / 65536) (at % 65536) (y ∷ ys) (inside m at xs (y ∷ ys) (fits (omega arith))) (m + 1) (xs ++ at_line m (linear (at / 65536)) ∷ []) a b (begins m at xs (y ∷ ys)) g)

pub stands_in_part : (m at : ℕ) (xs : List Record) (bytes : List ℕ) (a b : ℕ) → (0 < length bytes → at + length bytes ≤ 2 ^ 32) → Stands at bytes a b → Gives m xs (part_records at bytes) a b
stands_in_part m at xs [] a b fits s = let none = s.is in absurd cc
stands_in_part m at xs (y ∷ ys) a b fits s =
    inr (stand_in_rows (at / 65536) (at % 65536) (y ∷ ys) (inside m at xs (y ∷ ys) (fits (omega arith))) (m + 1) (xs ++ at_line m (linear (at / 65536)) ∷ []) a b (begins m at xs (y ∷ ys))
    (subst (λ f. Stands f (y ∷ ys) a b) (sym (from m at xs (y ∷ ys))) s))
