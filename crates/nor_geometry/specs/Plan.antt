-- What a plan of a window promises (this project's).
use Rattle.std.specs.Prelude.{◌≡◌, ◌⊎◌, ⊤, ℕ, true, false, ◌+◌, ◌/◌, ◌%◌, ◌<◌, ◌≤◌, List, length, map, Option, Some, None, slice_index}
use Rattle.nor_base.specs.declared.meaning.Start.{Start}
use Rattle.nor_base.specs.declared.meaning.Strategy.{Strategy}
use Rattle.nor_base.specs.Parameters.{Parameters}
use Rattle.nor_base.specs.Blocks.{Block}
use Rattle.nor_base.specs.Strategies.{strategy}
use Rattle.nor_base.specs.Need.{is_unreachable, lacks_erase, is_at_fault}
use Rattle.nor_base.specs.Units.{WorkUnit, pages, units_of}
use Rattle.nor_geometry.specs.Window.{IsWindowSize}
use Rattle.nor_geometry.specs.declared.unit.PlanUnit.{PlanUnit}
use Rattle.nor_geometry.specs.declared.unit.PlanUnit.TheVariants as unit
use Rattle.nor_geometry.specs.declared.fault.PlanFault.{PlanFault}
use Rattle.nor_geometry.specs.declared.fault.PlanFault.TheVariants as fault

-- a window of the chip, and the strategy of some start
pub record IsWindow (m : Parameters) (by : Strategy) (at count : ℕ) : Type 0 where
  pub start : Start
  pub its_strategy : by ≡ strategy m start
  pub size : ℕ
  pub its_size : IsWindowSize m size
  pub whole : at % size ≡ 0
  pub inside : at + count ≤ m.size
  pub ends : (count ≡ size) ⊎ ((count ≤ size) × (at + count ≡ m.size))

-- the bytes of the whole from an address on
pub record HasPart (whole part : List ℕ) (at : ℕ) : Type 0 where
  pub fits : at + length part ≤ length whole
  pub same : (i : ℕ) → i < length part → slice_index whole (at + i) ≡ slice_index part i

-- a unit without its programs
abbrev pub unit_for : Option Block → ℕ → PlanUnit
unit_for None start = unit.Page start
unit_for (Some b) start = unit.Block b

abbrev pub plan_unit : WorkUnit → PlanUnit
plan_unit u = unit_for u.erase u.start

-- whatever the rest of the chip holds and must hold: these are just its units that start in the window, and no address
-- there is at fault
pub record IsPlanOf (m : Parameters) (by : Strategy) (at : ℕ) (content target : List ℕ) (count : ℕ) (planned : List PlanUnit) : Type 0 where
  pub units : planned ≡ map plan_unit (units_of m by content target (pages m.page at (count / m.page)))
  pub sound : (x : ℕ) → at ≤ x → x < at + count → is_at_fault m by content target x ≡ false

abbrev pub IsPlan : Parameters → Strategy → ℕ → List ℕ → List ℕ → List PlanUnit → Type 0
IsPlan m by at have want units =
    (content target : List ℕ) → HasPart content have at → HasPart target want at → IsPlanOf m by at content target (length have) units

-- the lowest address of the window at fault, by its cause
pub record IsLowestAt (m : Parameters) (by : Strategy) (at : ℕ) (content target : List ℕ) (count a : ℕ) : Type 0 where
  pub from : at ≤ a
  pub upto : a < at + count
  pub none_below : (x : ℕ) → at ≤ x → x < a → is_at_fault m by content target x ≡ false

-- the fault of a chip with that content and target; that memory was refused is none
abbrev pub IsFaultOf : Parameters → Strategy → ℕ → List ℕ → List ℕ → ℕ → PlanFault → Type 0
IsFaultOf m by at content target count (fault.NoErase a) = IsLowestAt m by at content target count a × (lacks_erase m by content target a ≡ true)
IsFaultOf m by at content target count (fault.Unreachable a) = IsLowestAt m by at content target count a × (is_unreachable by content target a ≡ true)
IsFaultOf m by at content target count fault.Memory = ⊥

-- so it is whatever the rest of the chip holds and must hold
abbrev pub IsFault : Parameters → Strategy → ℕ → List ℕ → List ℕ → PlanFault → Type 0
IsFault m by at have want fault.Memory = ⊥
IsFault m by at have want why =
    (content target : List ℕ) → HasPart content have at → HasPart target want at → IsFaultOf m by at content target (length have) why

-- why there is no plan: an address is at fault, or memory was refused
abbrev pub Refuses : Parameters → Strategy → ℕ → List ℕ → List ℕ → PlanFault → Type 0
Refuses m by at have want fault.Memory = ⊤
Refuses m by at have want why = IsFault m by at have want why
