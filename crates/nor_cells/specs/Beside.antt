-- The cells beside those that steps touch (this project's). A chip whose erase instruction erases more than its tables say, an
-- aligned block around the one that was meant (JESD216: erase types), erases the next held cell too.
use Rattle.std.specs.Prelude.{◌≡◌, ◌≢◌, ◌⊎◌, ℕ, ◌*◌, ◌/◌, ◌<◌, List, length, slice_index}
use Rattle.nor_cells.specs.Cells.{IsCellOf}

-- some byte in the cell isn't blank
pub record IsHeld (content : List ℕ) (c : ℕ) : Type 0 where
  pub at : ℕ
  pub within : at < length content
  pub there : at / 256 ≡ c
  pub held : slice_index content at ≢ 0xFF

-- each cell between the two is blank and not touched
pub record IsGap (Touched : ℕ → Type 0) (content : List ℕ) (low high : ℕ) : Type 0 where
  pub order : low < high
  pub bare : (d : ℕ) → low < d → d < high → (IsHeld content d → ⊥) × (Touched d → ⊥)

-- the cell holds something and isn't touched, and nothing but a gap lies between it and a touched cell
pub record IsBesideCell (Touched : ℕ → Type 0) (content : List ℕ) (c : ℕ) : Type 0 where
  pub held : IsHeld content c
  pub free : Touched c → ⊥
  pub to : ℕ
  pub within : 256 * to < length content
  pub touched : Touched to
  pub gap : IsGap Touched content c to ⊎ IsGap Touched content to c

-- the address lies in such a cell; P says which addresses are touched
abbrev pub IsBeside : (ℕ → Type 0) → List ℕ → ℕ → Type 0
IsBeside P content a = IsBesideCell (IsCellOf P) content (a / 256)
