-- The text of the lines of a stretch, as it is written (this project's).
use Rattle.std.specs.Prelude.{◌≡◌, ℕ, List, ◌++◌, flat_map}
use Rattle.nor_base.specs.declared.meaning.Strategy.{Strategy}
use Rattle.nor_base.specs.Parameters.{Parameters}
use Rattle.nor_outline.specs.Outline.{unit_lines, IsFaultless}
use Rattle.nor_steps.specs.Stretch.{Stretch, Extent, OnEveryChip}
use Rattle.nor_steps.specs.Texts.{UnitText}
use Rattle.nor_steps.specs.Work.{stretch_units}

-- the text of the lines of the units that start in an extent
abbrev pub stretch_lines : Parameters → Strategy → Extent → List ℕ
stretch_lines m by e = flat_map (unit_lines m by e.content e.target) (stretch_units m by e)

-- a text is that of the lines of an extent, and no address of it is at fault
pub record AreLinesOf (m : Parameters) (by : Strategy) (e : Extent) (text : List ℕ) : Type 0 where
  pub are : stretch_lines m by e ≡ text
  pub sound : IsFaultless m by e

abbrev pub AreLines : Parameters → Strategy → Stretch → List ℕ → Type 0
AreLines m by p text = OnEveryChip p (λ e. AreLinesOf m by e text)

-- a text with which the text of the lines of an extent begins, and no address of the extent is at fault
pub record AreBegunOf (m : Parameters) (by : Strategy) (e : Extent) (front : List ℕ) : Type 0 where
  pub rest : List ℕ
  pub whole : stretch_lines m by e ≡ front ++ rest
  pub sound : IsFaultless m by e

abbrev pub AreBegun : Parameters → Strategy → Stretch → List ℕ → Type 0
AreBegun m by p front = OnEveryChip p (λ e. AreBegunOf m by e front)

-- the text of the lines of a unit, as a text of the work
abbrev pub unit_outline : UnitText
unit_outline w content target u = unit_lines w.streaming.meaning w.streaming.by content target u
