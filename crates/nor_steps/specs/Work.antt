-- The work of a stretch of a chip, as it is written (this project's).
use Rattle.std.specs.Prelude.{◌≡◌, ℕ, false, ◌+◌, ◌/◌, ◌<◌, ◌≤◌, List, length, flat_map}
use Rattle.nor_base.specs.declared.meaning.Strategy.{Strategy}
use Rattle.nor_base.specs.Parameters.{Parameters}
use Rattle.nor_base.specs.Need.{is_at_fault}
use Rattle.nor_base.specs.Units.{WorkUnit, pages, units_of}
use Rattle.nor_base.specs.Operations.{Op, unit_ops}
use Rattle.nor_base.specs.Accepted.{IsAccepted}
use Rattle.nor_geometry.specs.Plan.{IsWindow, IsPlan}
use Rattle.nor_geometry.specs.declared.unit.PlanUnit.{PlanUnit}
use Rattle.nor_plan_laws.specs.Least.{ErasesBlocks}
use Rattle.nor_steps.specs.Stretch.{Stretch, Extent, OnEveryChip}
use Rattle.nor_steps.specs.Writing.{Writing}

-- the units that start in an extent, and their operations
abbrev pub stretch_units : Parameters → Strategy → Extent → List WorkUnit
stretch_units m by e = units_of m by e.content e.target (pages m.page e.at (e.count / m.page))

abbrev pub stretch_ops : Writing → Extent → List Op
stretch_ops w e = flat_map (unit_ops w.streaming.meaning w.verify e.target) (stretch_units w.streaming.meaning w.streaming.by e)

-- no address of an extent is at fault
abbrev pub IsSound : Writing → Extent → Type 0
IsSound w e = (x : ℕ) → e.at ≤ x → x < e.at + e.count → is_at_fault w.streaming.meaning w.streaming.by e.content e.target x ≡ false

-- the operations of an extent, and that no address of it is at fault
pub record IsWorkOf (w : Writing) (e : Extent) (ops : List Op) : Type 0 where
  pub are : stretch_ops w e ≡ ops
  pub sound : IsSound w e

abbrev pub IsWork : Writing → Stretch → List Op → Type 0
IsWork w p ops = OnEveryChip p (λ e. IsWorkOf w e ops)

-- what is known of a window and its plan
pub record IsWindowPlan (m : Parameters) (by : Strategy) (p : Stretch) (units : List PlanUnit) : Type 0 where
  pub law : ErasesBlocks
  pub accepted : IsAccepted m
  pub window : IsWindow m by p.at (length p.have)
  pub lengths : length p.have ≡ length p.want
  pub plan : IsPlan m by p.at p.have p.want units
