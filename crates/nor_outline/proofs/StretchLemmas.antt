-- From one unit of a window to the next.
use Rattle.std.proofs.Common.{◌≡◌, ℕ, suc, ◌+◌, ◌-◌, ◌^◌, ◌<◌, ◌≤◌, List, [], ◌∷◌, ◌++◌, length, take, get_or, refl, sym, ◌∙◌, ap, subst, arith}
use Rattle.std.specs.Prelude.{flat_map}
use Rattle.std.specs.List.{slice_range}
use Rattle.std.proofs.lemmas.List.{append-nil, length-map, take_all}
use Rattle.std.proofs.lemmas.Grind.{flat_map-append}
use Rattle.nor_base.specs.declared.meaning.Strategy.{Strategy}
use Rattle.nor_base.specs.Need.{is_due}
use Rattle.nor_base.specs.Parameters.{Parameters}
use Rattle.nor_base.specs.Units.{WorkUnit}
use Rattle.nor_geometry.specs.declared.unit.PlanUnit.{PlanUnit}
use Rattle.nor_geometry.specs.declared.fault.PlanFault.{PlanFault}
use Rattle.nor_geometry.specs.declared.fault.PlanFault.TheVariants as plan
use Rattle.nor_geometry.specs.Plan.{HasPart, Refuses, plan_unit}
use Rattle.nor_outline.specs.Outline.{unit_plan, IsStretchPlan, RefusesLines}
use Rattle.nor_outline.specs.Parts.{AreUnitLines, IsPlanned}
use Rattle.nor_pages.specs.Runs.{IsUnit, unit_start}
use Rattle.nor_outline.specs.declared.line.PlanLine.{PlanLine}
use Rattle.nor_steps.specs.Stretch.{stretch, extent}
use Rattle.nor_steps.specs.Faults.{lifted_plan}
use Rattle.nor_steps.specs.Units.{unit_size, work_unit, HasBytes, unit_bytes}
use Rattle.nor_steps.specs.Work.{stretch_units, IsWindowPlan}
use Rattle.nor_steps.proofs.OpLemmas.{take_one, all_at}
use Rattle.nor_steps.proofs.Placed.{IsPlaced, level_of, length-level, units_placed, window_stretch}
use Rattle.nor_steps.proofs.WindowLemmas.{get_or_map, some_unit, part_of_part, has_bytes, lies_at}
use Rattle.nor_outline.proofs.Reached.{reached_at, reached_planned}

-- where the next unit lies
pub record LiesHere (m : Parameters) (by : Strategy) (at count : ℕ) (u : PlanUnit) : Type 0 where
  pub stretch : IsUnit m u (unit_size m.page u)
  pub planned : IsPlanned m by u (unit_size m.page u)
  pub low : at ≤ unit_start u
  pub high : unit_start u + unit_size m.page u ≤ at + count
  pub fits : at + count ≤ 2 ^ 28

pub lies_here : (m : Parameters) (by : Strategy) (at : ℕ) (have want : List ℕ) (units : List PlanUnit) (k : ℕ) (u : PlanUnit) → IsWindowPlan m by (stretch at have want) units
    → u ≡ get_or units k u → k < length units → LiesHere m by at (length have) u
lies_here m by at have want units k u p there inside =
    subst (LiesHere m by at (length have)) (sym there)
    (let lies = lies_at m by at have want units k u p.law p.accepted p.window p.plan inside in
    let fits = p.window.inside in
    record {
      stretch = lies.stretch;
      planned = reached_planned m by at (length have) _ (get_or units k u) p.window lies.stretch (reached_at m by at have want units k u p.law p.accepted p.plan inside);
      low = lies.low;
      high = lies.high;
      fits = omega (arith, fits, p.accepted.size_high);
    })

-- what the unit is in the work, and its bytes
record IsHere (m : Parameters) (level content target have want : List ℕ) (x : PlanUnit) (u : WorkUnit) : Type 0 where
  pub made : u ≡ work_unit m level target x
  pub part : HasPart content have (unit_start x)
  pub bytes : HasBytes x have want level target

abbrev part_from : Parameters → ℕ → List ℕ → PlanUnit → List ℕ
part_from m at bytes x = slice_range bytes (unit_start x - at) (unit_start x - at + unit_size m.page x)

here_at : (m : Parameters) (by : Strategy) (at : ℕ) (have want : List ℕ) (units : List PlanUnit) (k : ℕ) (d : PlanUnit) (content target : List ℕ)
    → IsWindowPlan m by (stretch at have want) units → k < length units → HasPart content have at → HasPart target want at
    → (k < length (stretch_units m by (extent at (length have) content target)))
    × IsHere m (level_of m by content target) content target (part_from m at have (get_or units k d)) (part_from m at want (get_or units k d)) (get_or units k d)
    (get_or (stretch_units m by (extent at (length have) content target)) k some_unit)
here_at m by at have want units k d content target p inside have_part want_part =
    let us = stretch_units m by (extent at (length have) content target) in
    let is = p.plan content target have_part want_part in
    let count : length units ≡ length us = ap length is.units ∙ length-map us plan_unit in
    let there : k < length us = omega (arith, count, inside) in
    let placed = all_at (IsPlaced m content (level_of m by content target) target at (length have)) us k some_unit
    (units_placed m by content target at (length have) p.window.size p.law (window_stretch m by at (length have) p.accepted p.window) have_part.fits) there in
    let u = get_or us k some_unit in
    let same : get_or units k d ≡ plan_unit u = ap (λ xs. get_or xs k d) is.units ∙ get_or_map plan_unit us k some_unit d there in
    let low = placed.lies.low in
    let high = placed.lies.high in
    let place : at + (unit_start (plan_unit u) - at) ≡ unit_start (plan_unit u) = omega (arith, low) in
    let part = subst (HasPart content (part_from m at have (plan_unit u))) place
    (part_of_part content have at (unit_start (plan_unit u) - at) (unit_start (plan_unit u) - at + unit_size m.page (plan_unit u)) have_part (omega arith) (omega (arith, low, high))) in
    let bytes = has_bytes m at (length have) content (level_of m by content target) target have want (plan_unit u) placed.lies placed.level_there
    (length-level m by content target) refl (sym p.lengths) have_part want_part in (
      there,
      subst (λ q. IsHere m (level_of m by content target) content target (part_from m at have q) (part_from m at want q) q u) (sym same)
          (record { made = placed.made; part = part; bytes = bytes }),
    )

-- these are the lines of the units before one
pub record AreSofar (m : Parameters) (by : Strategy) (at : ℕ) (have want : List ℕ) (k : ℕ) (lines : List PlanLine) : Type 0 where
  pub are : (content target : List ℕ) → HasPart content have at → HasPart target want at
      → flat_map (unit_plan m by (is_due m content target)) (take k (stretch_units m by (extent at (length have) content target))) ≡ lines

pub sofar_none : (m : Parameters) (by : Strategy) (at : ℕ) (have want : List ℕ) → AreSofar m by at have want 0 []
sofar_none m by at have want = record { are = λ content target first second. refl }

-- one unit more
sofar_next : (m : Parameters) (by : Strategy) (at : ℕ) (have want : List ℕ) (units : List PlanUnit) (k : ℕ) (d : PlanUnit) (lines more : List PlanLine)
    → IsWindowPlan m by (stretch at have want) units → AreSofar m by at have want k lines → k < length units
    → AreUnitLines m by (unit_bytes (get_or units k d) (part_from m at have (get_or units k d)) (part_from m at want (get_or units k d))) more
    → AreSofar m by at have want (k + 1) (lines ++ more)
sofar_next m by at have want units k d lines more p s inside are = record {
  are = λ content target have_part want_part.
      let us = stretch_units m by (extent at (length have) content target) in
      let here = here_at m by at have want units k d content target p inside have_part want_part in
      let f = unit_plan m by (is_due m content target) in
      let next : k + 1 ≡ suc k = omega arith in
      let its : f (get_or us k some_unit) ≡ more = ap f here.1.made ∙ are content (level_of m by content target) target here.1.part here.1.bytes in
      ap (λ n. flat_map f (take n us)) next ∙ ap (flat_map f) (take_one us k some_unit here.0) ∙ flat_map-append f (take k us) (get_or us k some_unit ∷ [])
      ∙ ap (λ xs. flat_map f (take k us) ++ xs) (append-nil (f (get_or us k some_unit)) ∙ its) ∙ ap (λ xs. xs ++ more) (s.are content target have_part want_part);
}

pub next_here : (m : Parameters) (by : Strategy) (at : ℕ) (have want : List ℕ) (units : List PlanUnit) (k : ℕ) (x : PlanUnit) (low high : ℕ) (lines more new : List PlanLine)
    → IsWindowPlan m by (stretch at have want) units → AreSofar m by at have want k lines → x ≡ get_or units k x → k < length units → low ≡ unit_start x - at
    → high ≡ unit_start x - at + unit_size m.page x → AreUnitLines m by (unit_bytes x (slice_range have low high) (slice_range want low high)) more → new ≡ lines ++ more
    → AreSofar m by at have want (k + 1) new
next_here m by at have want units k x low high lines more new p s there inside low_is high_is are put =
    subst (AreSofar m by at have want (k + 1)) (sym put)
    (sofar_next m by at have want units k x lines more p s inside
    (subst (λ q. AreUnitLines m by (unit_bytes q (part_from m at have q) (part_from m at want q)) more) there
    (subst (λ h. AreUnitLines m by (unit_bytes x (slice_range have (unit_start x - at) h) (slice_range want (unit_start x - at) h)) more) high_is
    (subst (λ l. AreUnitLines m by (unit_bytes x (slice_range have l high) (slice_range want l high)) more) low_is are))))

-- the lines of all units
pub all_lines : (m : Parameters) (by : Strategy) (at : ℕ) (have want : List ℕ) (units : List PlanUnit) (k : ℕ) (lines : List PlanLine)
    → IsWindowPlan m by (stretch at have want) units → AreSofar m by at have want k lines → length units ≤ k → IsStretchPlan m by (stretch at have want) lines
all_lines m by at have want units k lines p s past content target have_part want_part =
    let us = stretch_units m by (extent at (length have) content target) in
    let is = p.plan content target have_part want_part in
    let long : length units ≡ length us = ap length is.units ∙ length-map us plan_unit in
    record {
      are = ap (flat_map (unit_plan m by (is_due m content target))) (sym (take_all k us (omega (arith, long, past)))) ∙ s.are content target have_part want_part;
      sound = is.sound;
    }

-- no plan
pub no_plan : (m : Parameters) (by : Strategy) (at : ℕ) (have want : List ℕ) (why : PlanFault) → Refuses m by at have want why
    → RefusesLines m by (stretch at have want) (lifted_plan why)
no_plan m by at have want plan.Memory is = tt
no_plan m by at have want (plan.NoErase x) is = is
no_plan m by at have want (plan.Unreachable x) is = is
