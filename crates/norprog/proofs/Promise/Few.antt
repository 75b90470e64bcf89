-- Few lines of a plan tell an instruction: no more than there are erases and programs.
use Rattle.std.proofs.Common.{◌≡◌, ◌∙◌, ℕ, ◌+◌, ◌*◌, ◌^◌, ◌≤◌, ◌==◌, Bool, true, false, cond, if◌then◌else◌, List, [], ◌∷◌, length, map, Option, Some, None, refl, sym, ap, subst, arith}
use Rattle.std.specs.Prelude.{flat_map, is_some, sum_by, count_by}
use Rattle.std.specs.List.{find, range_with_len}
use Rattle.std.specs.Option.{option_map_or}
use Rattle.std.proofs.lemmas.List.Sums.{sum_by-cons, sum_by-append}
use Rattle.nor_base.specs.Blocks.{Block, smallest}
use Rattle.nor_base.specs.declared.meaning.Strategy.{Strategy}
use Rattle.nor_base.specs.Device.{Ahead}
use Rattle.nor_base.specs.Need.{is_due}
use Rattle.nor_base.specs.Operations.{erasing}
use Rattle.nor_base.specs.Parameters.{Parameters}
use Rattle.nor_base.specs.Programs.{Program}
use Rattle.nor_base.specs.Strategies.{strategy}
use Rattle.nor_base.specs.Units.{WorkUnit}
use Rattle.nor_job.specs.Filled.{target_from}
use Rattle.nor_outline.specs.Outline.{because, reason, reason_at, reasons, erase_lines, program_line, unit_plan, IsStretchPlanOf}
use Rattle.nor_outline.specs.declared.line.PlanLine.{PlanLine}
use Rattle.nor_outline.specs.declared.line.PlanLine.TheVariants as line
use Rattle.nor_steps.specs.Tally.{erases_of, programs_of}
use Rattle.nor_steps.specs.Work.{stretch_units, IsWorkOf}
use Rattle.nor_steps.specs.Stretch.{extent}
use Rattle.norprog.specs.Planner.{Planning, IsReady, HasTold}
use Rattle.norprog.specs.Windows.{first_writing}
use Rattle.norprog.proofs.Content.Targets.{part_whole}
use Rattle.norprog.proofs.Promise.Counts.{erases_told, programs_told}

abbrev NoReason : (PlanLine → Bool) → Type 0
NoReason tells = (start cause : ℕ) → tells (line.Because start cause) ≡ false

abbrev one : (PlanLine → Bool) → PlanLine → ℕ
one tells l = cond (tells l) 1 0

at_most_one : (b : Bool) → cond b 1 0 ≤ 1
at_most_one true = omega arith
at_most_one false = omega arith

none_if : (f : PlanLine → ℕ) (b : Bool) (lines : List PlanLine) → sum_by f lines ≡ 0 → sum_by f (if b then lines else []) ≡ 0
none_if f true lines none = none
none_if f false lines none = refl

none_flat : {X : Type 0} (f : PlanLine → ℕ) (g : X → List PlanLine) → ((x : X) → sum_by f (g x) ≡ 0) → (xs : List X) → sum_by f (flat_map g xs) ≡ 0
none_flat f g none [] = refl
none_flat f g none (x ∷ xs) = omega (arith, sum_by-append f (g x) (flat_map g xs), none x, none_flat f g none xs)

none_because : (tells : PlanLine → Bool) → NoReason tells → (start : ℕ) (cause : Option ℕ) → sum_by (one tells) (because start cause) ≡ 0
none_because tells none start None = refl
none_because tells none start (Some cause) =
    omega (arith, sum_by-cons (one tells) (line.Because start cause) [], ap {B = ℕ} (λ b. cond b 1 0) (none start cause))

none_at : (tells : PlanLine → Bool) → NoReason tells → (due : ℕ → Bool) (a : ℕ) (least : Option Block)
    → sum_by (one tells) (option_map_or (λ b. if b.start == a then reason due b.start b.size else []) least []) ≡ 0
none_at tells none due a None = refl
none_at tells none due a (Some b) =
    none_if (one tells) (b.start == a) (reason due b.start b.size) (none_because tells none b.start (find due (range_with_len b.start b.size)))

few_erases : (tells : PlanLine → Bool) → NoReason tells → (m : Parameters) (by : Strategy) (due : ℕ → Bool) (e : Option Block)
    → sum_by (one tells) (erase_lines m by due e) ≤ cond (is_some e) 1 0
few_erases tells none m by due None = omega arith
few_erases tells none m by due (Some b) =
    let erase = line.Erase b.start b.size (erasing m by b).op in
    omega (
      arith,
      sum_by-cons (one tells) erase (reasons m due b.start b.size),
      at_most_one (tells erase),
      none_flat (one tells) (reason_at m due) (λ a. none_at tells none due a (smallest m a)) (range_with_len b.start b.size),
    )

few_programs : (tells : PlanLine → Bool) (ps : List Program) → sum_by (one tells) (map program_line ps) ≤ length ps
few_programs tells [] = omega arith
few_programs tells (p ∷ ps) =
    omega (arith, sum_by-cons (one tells) (program_line p) (map program_line ps), at_most_one (tells (program_line p)), few_programs tells ps)

few_units : (tells : PlanLine → Bool) → NoReason tells → (m : Parameters) (by : Strategy) (due : ℕ → Bool) (us : List WorkUnit)
    → sum_by (one tells) (flat_map (unit_plan m by due) us) ≤ count_by (λ u. is_some u.erase) us + sum_by (λ u. length u.programs) us
few_units tells none m by due [] = omega arith
few_units tells none m by due (u ∷ us) =
    omega (
      arith,
      sum_by-append (one tells) (unit_plan m by due u) (flat_map (unit_plan m by due) us),
      sum_by-append (one tells) (erase_lines m by due u.erase) (map program_line u.programs),
      few_erases tells none m by due u.erase,
      few_programs tells u.programs,
      few_units tells none m by due us,
      sum_by-cons (λ (u : WorkUnit). cond (is_some u.erase) 1 0) u us,
      sum_by-cons (λ (u : WorkUnit). length u.programs) u us,
    )

pub few_lines : (p : Planning) (first now : Ahead) (lines : List PlanLine) (tells : PlanLine → Bool) → NoReason tells → IsReady p → HasTold p first now lines
    → count_by tells lines ≤ p.at * 2 ^ 31
few_lines p first now lines tells none ready its =
    let job = p.job in
    let m = job.meaning in
    let by = strategy m job.start in
    let part = its.part in
    let goal = target_from job 0 part in
    let us = stretch_units m by (extent 0 (length part) part goal) in
    let plan : IsStretchPlanOf m by (extent 0 (length part) part goal) lines = its.plan part goal (part_whole part) (part_whole goal) in
    let work : IsWorkOf (first_writing job) (extent 0 (length part) part goal) its.steps.ops = its.steps.work part goal (part_whole part) (part_whole goal) in
    let few = few_units tells none m by (is_due m part goal) us in
    let erases : p.told.erases ≡ count_by (λ (u : WorkUnit). is_some u.erase) us =
    ap (λ t. t.erases) its.steps.its_tally ∙ ap (sum_by erases_of) (sym work.are) ∙ erases_told m job.verify goal us in
    let programs : p.told.programs ≡ sum_by (λ (u : WorkUnit). length u.programs) us =
    ap (λ t. t.programs) its.steps.its_tally ∙ ap (sum_by programs_of) (sym work.are) ∙ programs_told m job.verify goal us in
    let bound : sum_by (one tells) lines ≤ p.told.erases + p.told.programs =
    subst (λ (ls : List PlanLine). sum_by (one tells) ls ≤ p.told.erases + p.told.programs) plan.are (omega (arith, few, erases, programs)) in
    omega (arith, bound, its.size, its.steps.few.erases, its.steps.few.programs)
