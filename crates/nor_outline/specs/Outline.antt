-- The lines of a plan (this project's).
use Rattle.std.specs.Prelude.{◌≡◌, ℕ, Bool, false, ◌==◌, ◌+◌, ◌<◌, ◌≤◌, if◌then◌else◌, ⊤, List, [], ◌∷◌, ◌++◌, length, map, flat_map, Option, Some, None}
use Rattle.std.specs.List.{find, range_with_len}
use Rattle.std.specs.Option.{option_map_or}
use Rattle.nor_base.specs.declared.meaning.Start.{Start}
use Rattle.nor_base.specs.declared.meaning.Strategy.{Strategy}
use Rattle.nor_base.specs.Parameters.{Parameters}
use Rattle.nor_base.specs.Blocks.{Block, smallest}
use Rattle.nor_base.specs.Need.{is_due, is_at_fault}
use Rattle.nor_base.specs.Operations.{erasing}
use Rattle.nor_base.specs.Planned.{planned_units}
use Rattle.nor_base.specs.Programs.{Program}
use Rattle.nor_base.specs.Strategies.{strategy}
use Rattle.nor_base.specs.Units.{WorkUnit}
use Rattle.nor_geometry.specs.Plan.{IsFault}
use Rattle.nor_outline.specs.declared.line.PlanLine.{PlanLine}
use Rattle.nor_outline.specs.declared.line.PlanLine.TheVariants as line
use Rattle.nor_outline.specs.Lines.{lines_text}
use Rattle.nor_steps.specs.Stretch.{Stretch, Extent, OnEveryChip}
use Rattle.nor_steps.specs.declared.fault.StepsFault.{StepsFault}
use Rattle.nor_steps.specs.declared.fault.StepsFault.TheVariants as fault
use Rattle.nor_steps.specs.Work.{stretch_units}

-- of a smallest block's start, and of some address that is due in it, if there is one
abbrev pub because : ℕ → Option ℕ → List PlanLine
because start None = []
because start (Some cause) = line.Because start cause ∷ []

-- of so many bytes from a start on: why the smallest block there is erased, the lowest address in it that is due
abbrev pub reason : (ℕ → Bool) → ℕ → ℕ → List PlanLine
reason due start size = because start (find due (range_with_len start size))

-- why the smallest legal block that starts at an address is erased; nothing where none starts
abbrev pub reason_at : Parameters → (ℕ → Bool) → ℕ → List PlanLine
reason_at m due a = option_map_or (λ b. if b.start == a then reason due b.start b.size else []) (smallest m a) []

-- why a block is erased: for each address of it, rising, at which a smallest legal block starts
abbrev pub reasons : Parameters → (ℕ → Bool) → ℕ → ℕ → List PlanLine
reasons m due start size = flat_map (reason_at m due) (range_with_len start size)

-- a block that is erased: its start, its size and the opcode that erases it, and why
abbrev pub erase_lines : Parameters → Strategy → (ℕ → Bool) → Option Block → List PlanLine
erase_lines m by due None = []
erase_lines m by due (Some b) = line.Erase b.start b.size (erasing m by b).op ∷ reasons m due b.start b.size

-- a program: the address of the first byte, and how many there are
abbrev pub program_line : Program → PlanLine
program_line p = line.Program p.at (length p.bytes)

-- the lines of a unit: its erase with the reasons, and its programs
abbrev pub unit_plan : Parameters → Strategy → (ℕ → Bool) → WorkUnit → List PlanLine
unit_plan m by due u = erase_lines m by due u.erase ++ map program_line u.programs

-- the lines of the planned work of a content and its target
abbrev pub plan_of : Parameters → Start → List ℕ → List ℕ → List PlanLine
plan_of m start have want = flat_map (unit_plan m (strategy m start) (is_due m have want)) (planned_units m start have want)

-- the text of the lines of a unit, by the content and the target of the chip
abbrev pub unit_lines : Parameters → Strategy → List ℕ → List ℕ → WorkUnit → List ℕ
unit_lines m by content target u = lines_text (unit_plan m by (is_due m content target) u)

-- the lines of the units that start in an extent
abbrev pub stretch_plan : Parameters → Strategy → Extent → List PlanLine
stretch_plan m by e = flat_map (unit_plan m by (is_due m e.content e.target)) (stretch_units m by e)

-- no address of an extent is at fault
abbrev pub IsFaultless : Parameters → Strategy → Extent → Type 0
IsFaultless m by e = (x : ℕ) → e.at ≤ x → x < e.at + e.count → is_at_fault m by e.content e.target x ≡ false

-- these are the lines of an extent, and no address of it is at fault
pub record IsStretchPlanOf (m : Parameters) (by : Strategy) (e : Extent) (lines : List PlanLine) : Type 0 where
  pub are : stretch_plan m by e ≡ lines
  pub sound : IsFaultless m by e

abbrev pub IsStretchPlan : Parameters → Strategy → Stretch → List PlanLine → Type 0
IsStretchPlan m by p lines = OnEveryChip p (λ e. IsStretchPlanOf m by e lines)

-- why there are none: an address is at fault, the lowest is named; or a growth was refused
abbrev pub RefusesLines : Parameters → Strategy → Stretch → StepsFault → Type 0
RefusesLines m by p (fault.Plan why) = IsFault m by p.at p.have p.want why
RefusesLines m by p fault.Memory = ⊤
RefusesLines m by p fault.Write = ⊥
