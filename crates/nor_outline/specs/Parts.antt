-- The lines of a unit by its own bytes.
use Rattle.std.specs.Prelude.{◌≡◌, ℕ, Bool, true, ◌-◌, List, ◌++◌, map, Some}
use Rattle.nor_base.specs.declared.meaning.Start.{Start}
use Rattle.nor_base.specs.declared.meaning.Strategy.{Strategy}
use Rattle.nor_base.specs.Parameters.{Parameters}
use Rattle.nor_base.specs.Blocks.{Block, IsLegalBlock}
use Rattle.nor_base.specs.Need.{is_due}
use Rattle.nor_base.specs.Strategies.{strategy, reaches}
use Rattle.nor_geometry.specs.declared.unit.PlanUnit.{PlanUnit}
use Rattle.nor_geometry.specs.declared.unit.PlanUnit.TheVariants as unit
use Rattle.nor_geometry.specs.Plan.{HasPart}
use Rattle.nor_outline.specs.Outline.{erase_lines, unit_plan}
use Rattle.nor_pages.specs.declared.run.Run.{Run}
use Rattle.nor_pages.specs.Runs.{unit_start}
use Rattle.nor_outline.specs.declared.line.PlanLine.{PlanLine}
use Rattle.nor_outline.specs.declared.line.PlanLine.TheVariants.{Program}
use Rattle.nor_steps.specs.Units.{work_unit, HasBytes, UnitBytes}

-- an address is due, of bytes that begin at another
abbrev pub due_in : Parameters → List ℕ → List ℕ → ℕ → ℕ → Bool
due_in m have want at x = is_due m have want (x - at)

abbrev pub run_line : Run → PlanLine
run_line r = Program r.at r.len

-- of a block, and of a unit, by the addresses that are due
abbrev pub block_lines : Parameters → Strategy → (ℕ → Bool) → Block → List Run → List PlanLine
block_lines m by due b runs = erase_lines m by due (Some b) ++ map run_line runs

abbrev pub part_lines : Parameters → Strategy → (ℕ → Bool) → PlanUnit → List Run → List PlanLine
part_lines m by due (unit.Block b) runs = block_lines m by due b runs
part_lines m by due (unit.Page start) runs = map run_line runs

-- whatever the rest of the chip holds and must hold, with the erased blocks level: the unit's lines
abbrev pub AreUnitLines : Parameters → Strategy → UnitBytes → List PlanLine → Type 0
AreUnitLines m by u lines =
    (content level target : List ℕ) → HasPart content u.have (unit_start u.planned) → HasBytes u.planned u.have u.want level target
    → unit_plan m by (is_due m content target) (work_unit m level target u.planned) ≡ lines

-- a block that the strategy of some start may erase
pub record MayErase (m : Parameters) (by : Strategy) (b : Block) : Type 0 where
  pub start : Start
  pub its_strategy : by ≡ strategy m start
  pub legal : IsLegalBlock m b
  pub reached : reaches by m b.kind b.start ≡ true

-- so is the block of a unit that has so many bytes
abbrev pub IsPlanned : Parameters → Strategy → PlanUnit → ℕ → Type 0
IsPlanned m by (unit.Block b) count = (count ≡ b.size) × MayErase m by b
IsPlanned m by (unit.Page start) count = Unit {0}
