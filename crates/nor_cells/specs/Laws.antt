-- What the compared cells show (this project's).
use Rattle.std.specs.Prelude.{◌≡◌, ℕ, ◌+◌, ◌*◌, ◌/◌, ◌^◌, ◌<◌, ◌≤◌, Bool, true, List, length, slice_index}
use Rattle.nor_cells.specs.Beside.{IsBesideCell}
use Rattle.nor_cells.specs.Cells.{IsInCellOf}
use Rattle.nor_cells.specs.Wrap.{Repeats, ShowsWrap}

-- what a chip gives is what a content has, at these addresses
abbrev pub Agrees : (ℕ → Type 0) → List ℕ → (ℕ → ℕ) → Type 0
Agrees P content real = (a : ℕ) → a < length content → P a → real a ≡ slice_index content a

-- a chip of so many bytes gives the same byte at two addresses that lie so far apart
abbrev pub Wraps : ℕ → (ℕ → ℕ) → Type 0
Wraps far real = (a : ℕ) → real a ≡ real (a + far)

-- Where a chip that wraps at a power of two, 4 KiB the least, gives what the content has in the cells by which a smaller chip shows,
-- the content itself repeats so: then that chip may hold all of it.
abbrev pub NoSmallerChip : Type 0
NoSmallerChip = (content : List ℕ) (real : ℕ → ℕ) (k : ℕ) → 12 ≤ k → Wraps (2 ^ k) real → Agrees (IsInCellOf (ShowsWrap content)) content real
    → Repeats content (2 ^ k)

-- from one cell to before another all was erased, and of the cells that aren't touched nothing was written since
abbrev pub IsErasedBetween : (ℕ → Bool) → List ℕ → (ℕ → ℕ) → ℕ → ℕ → Type 0
IsErasedBetween touched content real low high =
    (a : ℕ) → a < length content → low ≤ a / 256 → a / 256 < high → (touched (a / 256) ≡ true → ⊥) → real a ≡ 0xFF

-- Where an erase around a touched cell reached further than it should, and the chip gives what the content has in the held cells beside
-- the touched ones, nothing was lost: all that it erased beside them was blank.
abbrev pub NoWiderErase : Type 0
NoWiderErase = (content : List ℕ) (touched : ℕ → Bool) (real : ℕ → ℕ) (low high t : ℕ) → touched t ≡ true → 256 * t < length content → low ≤ t → t < high
    → IsErasedBetween touched content real low high → Agrees (λ a. IsBesideCell (λ c. touched c ≡ true) content (a / 256)) content real
    → (a : ℕ) → a < length content → low ≤ a / 256 → a / 256 < high → (touched (a / 256) ≡ true → ⊥) → slice_index content a ≡ 0xFF
