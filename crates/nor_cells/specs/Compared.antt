-- The bytes of a chip that are compared before steps and after them (this project's).
use Rattle.std.specs.Prelude.{◌⊎◌, ℕ, List}
use Rattle.nor_base.specs.declared.meaning.Start.{Start}
use Rattle.nor_base.specs.declared.step.Step.{Step}
use Rattle.nor_base.specs.Chip.{begins4}
use Rattle.nor_base.specs.Parameters.{Parameters}
use Rattle.nor_cells.specs.Beside.{IsBeside}
use Rattle.nor_cells.specs.Cells.{IsInCellOf}
use Rattle.nor_cells.specs.Edges.{IsEdge}
use Rattle.nor_cells.specs.Touched.{IsTouched}
use Rattle.nor_cells.specs.Wrap.{ShowsWrap}

-- the touched addresses, the first and the last byte of the content that aren't blank, the held cells beside the touched ones, and
-- the bytes by which a smaller chip shows
abbrev pub IsAsked : (ℕ → Type 0) → List ℕ → ℕ → Type 0
IsAsked P content a = P a ⊎ (IsEdge content a ⊎ (IsBeside P content a ⊎ ShowsWrap content a))

-- what is compared before the steps: the cells of these addresses
abbrev pub IsCompared : Parameters → Start → List ℕ → List Step → ℕ → Type 0
IsCompared m start content steps a = IsInCellOf (IsAsked (IsTouched m (begins4 m start) steps) content) a

-- what is compared after them: the same, and the cells by which a smaller chip shows in the content that they leave
abbrev pub IsReadBack : (ℕ → Type 0) → List ℕ → ℕ → Type 0
IsReadBack P left a = P a ⊎ IsInCellOf (ShowsWrap left) a
