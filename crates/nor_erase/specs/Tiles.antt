-- How a run of needed addresses is tiled, and which pages of a stretch are units.
use Rattle.std.specs.Prelude.{◌≡◌, ℕ, Bool, ◌+◌, ◌-◌, ◌≤◌, if◌then◌else◌, List, [], ◌∷◌, ◌++◌, map}
use Rattle.std.specs.List.{list_any, range_with_len}
use Rattle.nor_base.specs.declared.meaning.Strategy.{Strategy}
use Rattle.nor_base.specs.Parameters.{Parameters}
use Rattle.nor_base.specs.Blocks.{Block}
use Rattle.nor_base.specs.Need.{differs}
use Rattle.nor_geometry.specs.Legal.{IsReachedAt, IsListedAt}
use Rattle.nor_geometry.specs.declared.unit.PlanUnit.{PlanUnit}
use Rattle.nor_geometry.specs.declared.unit.PlanUnit.TheVariants as unit

-- of the strategy's blocks that start at an address and end by another the largest, of those of its size the lowest kind
pub record IsLargestAt (m : Parameters) (by : Strategy) (low high : ℕ) (b : Block) : Type 0 where
  pub listed : IsListedAt m by low b
  pub start : b.start ≡ low
  pub fits : b.start + b.size ≤ high
  pub most : (c : Block) → IsReachedAt m by low c → c.start ≡ low → c.start + c.size ≤ high → c.size ≤ b.size

-- the strategy has no block that starts at the address and ends by the other
abbrev pub NoneFits : Parameters → Strategy → ℕ → ℕ → Type 0
NoneFits m by low high = (c : Block) → IsReachedAt m by low c → c.start ≡ low → c.start + c.size ≤ high → ⊥

-- each the largest from the end of the one before it, until none fits
abbrev pub IsTiling : Parameters → Strategy → ℕ → ℕ → List Block → Type 0
IsTiling m by low high [] = NoneFits m by low high
IsTiling m by low high (b ∷ bs) = IsLargestAt m by low high b × IsTiling m by (low + b.size) high bs

-- blocks of which this is so were appended to some units
pub record AddsBlocks (Are : List Block → Type 0) (before after : List PlanUnit) : Type 0 where
  pub blocks : List Block
  pub tiling : Are blocks
  pub added : after ≡ before ++ map unit.Block blocks

-- some of so many bytes from a place on differ
abbrev pub differs_from : List ℕ → List ℕ → ℕ → ℕ → Bool
differs_from have want from count = list_any (differs have want) (range_with_len from count)

-- some byte of a page differs, of bytes that begin at an address
abbrev pub page_differs : List ℕ → List ℕ → ℕ → ℕ → ℕ → Bool
page_differs have want at page start = differs_from have want (start - at) page

-- a page that differs is a unit
abbrev pub page_if : List ℕ → List ℕ → ℕ → ℕ → ℕ → List PlanUnit
page_if have want at page start = if page_differs have want at page start then unit.Page start ∷ [] else []
