-- Each block of a plan is legal, and its strategy reaches it.
use Rattle.std.proofs.Common.{◌≡◌, ℕ, ◌/◌, ◌<◌, ◌==◌, Bool, true, false, if◌then◌else◌, List, [], ◌∷◌, length, map, get_or, Option, Some, None, refl, sym, subst}
use Rattle.std.specs.Prelude.{flat_map}
use Rattle.std.specs.List.{AllByRecursion}
use Rattle.nor_base.specs.declared.meaning.Strategy.{Strategy}
use Rattle.nor_base.specs.Accepted.{IsAccepted}
use Rattle.nor_base.specs.Blocks.{Block, IsLegalBlock}
use Rattle.nor_base.specs.Need.{is_due, erased_at}
use Rattle.nor_base.specs.Parameters.{Parameters}
use Rattle.nor_base.specs.Programs.{Program, page_programs}
use Rattle.nor_base.specs.Strategies.{reaches}
use Rattle.nor_base.specs.Units.{WorkUnit, pages, page_unit, block_unit, unit_by, units_over, units_of}
use Rattle.nor_geometry.specs.declared.unit.PlanUnit.{PlanUnit}
use Rattle.nor_geometry.specs.declared.unit.PlanUnit.TheVariants as unit
use Rattle.nor_geometry.specs.Plan.{IsWindow, IsPlan, plan_unit}
use Rattle.nor_outline.specs.Parts.{IsPlanned}
use Rattle.nor_pages.specs.Runs.{IsUnit}
use Rattle.nor_steps.proofs.OpLemmas.{all_at}
use Rattle.nor_base.proofs.ListLaws.{all_append}
use Rattle.nor_steps.proofs.Placed.{level_of}
use Rattle.nor_steps.proofs.WindowLemmas.{filled, part_filled}
use Rattle.nor_plan_laws.specs.Least.{ErasesBlocks}

abbrev pub IsReached : Parameters → Strategy → PlanUnit → Type 0
IsReached m by (unit.Block b) = IsLegalBlock m b × (reaches by m b.kind b.start ≡ true)
IsReached m by (unit.Page start) = Unit {0}

abbrev IsReachedUnit : Parameters → Strategy → WorkUnit → Type 0
IsReachedUnit m by u = IsReached m by (plan_unit u)

block_reached : (m : Parameters) (by : Strategy) (level target : List ℕ) (due : ℕ → Bool) (start : ℕ) (b : Block) (t : Bool) → ErasesBlocks → IsAccepted m
    → erased_at m by due start ≡ Some b → AllByRecursion (IsReachedUnit m by) (if t then block_unit m level target b ∷ [] else [])
block_reached m by level target due start b false law accepted is = tt
block_reached m by level target due start b true law accepted is =
    let e = law m by due start b accepted is in
    ((e.legal, e.reached), tt)

page_reached : (m : Parameters) (by : Strategy) (start : ℕ) (ps : List Program) → AllByRecursion (IsReachedUnit m by) (page_unit m start ps)
page_reached m by start [] = tt
page_reached m by start (p ∷ ps) = (tt, tt)

unit_reached : (m : Parameters) (by : Strategy) (level target : List ℕ) (due : ℕ → Bool) (start : ℕ) (o : Option Block) → ErasesBlocks → IsAccepted m
    → erased_at m by due start ≡ o → AllByRecursion (IsReachedUnit m by) (unit_by m level target start o)
unit_reached m by level target due start (Some b) law accepted is = block_reached m by level target due start b (b.start == start) law accepted is
unit_reached m by level target due start None law accepted is = page_reached m by start (page_programs m level target start)

over_reached : (m : Parameters) (by : Strategy) (level target : List ℕ) (due : ℕ → Bool) → ErasesBlocks → IsAccepted m → (starts : List ℕ)
    → AllByRecursion (IsReachedUnit m by) (flat_map (λ start. unit_by m level target start (erased_at m by due start)) starts)
over_reached m by level target due law accepted [] = tt
over_reached m by level target due law accepted (start ∷ starts) =
    all_append (IsReachedUnit m by) (unit_by m level target start (erased_at m by due start)) _
    (unit_reached m by level target due start (erased_at m by due start) law accepted refl) (over_reached m by level target due law accepted starts)

units_reached : (m : Parameters) (by : Strategy) (content target starts : List ℕ) → ErasesBlocks → IsAccepted m
    → AllByRecursion (IsReachedUnit m by) (units_of m by content target starts)
unfolding units_over
units_reached m by content target starts law accepted = over_reached m by (level_of m by content target) target (is_due m content target) law accepted starts

map_reached : (m : Parameters) (by : Strategy) (us : List WorkUnit) → AllByRecursion (IsReachedUnit m by) us → AllByRecursion (IsReached m by) (map plan_unit us)
map_reached m by [] all = tt
map_reached m by (u ∷ us) all = (all.0, map_reached m by us all.1)

pub reached_at : (m : Parameters) (by : Strategy) (at : ℕ) (have want : List ℕ) (units : List PlanUnit) (k : ℕ) (d : PlanUnit) → ErasesBlocks → IsAccepted m
    → IsPlan m by at have want units → k < length units → IsReached m by (get_or units k d)
reached_at m by at have want units k d law accepted planned inside =
    let content = filled at have in
    let target = filled at want in
    let is = planned content target (part_filled at have) (part_filled at want) in
    all_at (IsReached m by) units k d
    (subst (AllByRecursion (IsReached m by)) (sym is.units)
    (map_reached m by _ (units_reached m by content target (pages m.page at (length have / m.page)) law accepted))) inside

-- so its lines can be told
pub reached_planned : (m : Parameters) (by : Strategy) (at count n : ℕ) (u : PlanUnit) → IsWindow m by at count → IsUnit m u n → IsReached m by u → IsPlanned m by u n
reached_planned m by at count n (unit.Block b) w its is =
    (its.0, record { start = w.start; its_strategy = w.its_strategy; legal = is.0; reached = is.1 })
reached_planned m by at count n (unit.Page start) w its is = tt
