-- Cells of 256 bytes (this project's: no erase block and no page that programs wrap in is smaller; the first begins at address 0).
use Rattle.std.specs.Prelude.{◌≡◌, ℕ, ◌/◌}

-- some address in the cell is so
abbrev pub IsCellOf : (ℕ → Type 0) → ℕ → Type 0
IsCellOf P c = (b : ℕ) × (b / 256 ≡ c) × P b

-- some address in the cell of an address is so
abbrev pub IsInCellOf : (ℕ → Type 0) → ℕ → Type 0
IsInCellOf P a = IsCellOf P (a / 256)
