-- Marked cells of 256 bytes, for the contracts of the parts (this project's).
use Rattle.std.specs.Prelude.{◌≡◌, ◌⊎◌, ◌↔◌, ℕ, ◌+◌, ◌*◌, ◌/◌, ◌<◌, ◌≤◌, Bool, true, false, List, length, get_or}
use Rattle.nor_cells.specs.Cells.{IsInCellOf}

-- a cell is there, and marked
abbrev pub IsMarkedCell : List Bool → ℕ → Type 0
IsMarkedCell marks c = get_or marks c false ≡ true

-- so is the cell of an address
abbrev pub IsMarked : List Bool → ℕ → Type 0
IsMarked marks a = IsMarkedCell marks (a / 256)

-- the cells of which some address is so are marked, and the others are as they were
pub record MarkedBy (P : ℕ → Type 0) (old new : List Bool) : Type 0 where
  pub same_length : length new ≡ length old
  pub kept : (a : ℕ) → IsMarked old a → IsMarked new a
  pub more : (a : ℕ) → a / 256 < length old → P a → IsMarked new a
  pub only : (a : ℕ) → IsMarked new a → IsMarked old a ⊎ IsInCellOf P a

-- of so many cells just those are marked of which some address is so
pub record AreMarks (P : ℕ → Type 0) (count : ℕ) (marks : List Bool) : Type 0 where
  pub as_many : length marks ≡ count
  pub each : (a : ℕ) → a / 256 < count → (IsMarked marks a ↔ IsInCellOf P a)

-- the first marked address from one on
pub record IsNextMarked (marks : List Bool) (from a : ℕ) : Type 0 where
  pub past : from ≤ a
  pub is : IsMarked marks a
  pub none_before : (b : ℕ) → from ≤ b → b < a → IsMarked marks b → ⊥

-- so many marked addresses from one on, some, at most so many
pub record AreMarkedFrom (marks : List Bool) (start most len : ℕ) : Type 0 where
  pub some : 0 < len
  pub few : len ≤ most
  pub within : start + len ≤ 256 * length marks
  pub each : (a : ℕ) → start ≤ a → a < start + len → IsMarked marks a
