-- The lines of a unit by its own bytes are those by the whole chip's.
use Rattle.std.proofs.Common.{◌≡◌, ℕ, ◌+◌, ◌-◌, ◌<◌, ◌≤◌, ◌==◌, not, ◌&&◌, if◌then◌else◌, Bool, List, [], ◌∷◌, ◌++◌, length, map, Option, Some, None, refl, sym, ◌∙◌, ap, arith}
use Rattle.std.specs.Prelude.{slice_index}
use Rattle.std.specs.List.{slice_range, AllByRecursion}
use Rattle.nor_base.specs.declared.meaning.Strategy.{Strategy}
use Rattle.nor_base.specs.Parameters.{Parameters}
use Rattle.nor_base.specs.Accepted.{IsAccepted}
use Rattle.nor_base.specs.Blocks.{Block, IsLegalBlock, smallest}
use Rattle.nor_base.specs.Effect.{may_program}
use Rattle.nor_base.specs.Need.{is_due}
use Rattle.nor_base.specs.Operations.{erasing}
use Rattle.nor_plan_laws.proofs.Units.Ranges.{length-range, range_at}
use Rattle.nor_plan_laws.proofs.Erased.Needed.{holds_smallest}
use Rattle.nor_geometry.specs.declared.unit.PlanUnit.{PlanUnit}
use Rattle.nor_geometry.specs.declared.unit.PlanUnit.TheVariants as unit
use Rattle.nor_geometry.specs.Plan.{HasPart}
use Rattle.nor_erase.proofs.Runs.{at_address}
use Rattle.nor_pages.specs.declared.run.Run.{Run}
use Rattle.nor_pages.specs.Runs.{run_program, unit_start, LiesBetween, AreBetween, IsSplit}
use Rattle.nor_outline.specs.Outline.{program_line, because, reason, reason_at, reasons, erase_lines}
use Rattle.nor_outline.specs.declared.line.PlanLine.TheVariants.{Erase, Program}
use Rattle.nor_outline.specs.Parts.{due_in, run_line, part_lines, AreUnitLines, IsPlanned}
use Rattle.nor_outline.proofs.RangeLemmas.{find_same, flat_same}
use Rattle.nor_steps.specs.Units.{unit_bytes}

due_by : (m : Parameters) (old old' new new' : ℕ) → old ≡ old' → new ≡ new'
    → (not (old == new) && not (may_program m old new)) ≡ (not (old' == new') && not (may_program m old' new'))
due_by m old old' new new' first second =
    ap (λ n. not (n == new) && not (may_program m n new)) first ∙ ap (λ n. not (old' == n) && not (may_program m old' n)) second

-- a byte of a part of a block's bytes
pub due_part : (m : Parameters) (have want : List ℕ) (start done end x : ℕ) → done ≤ end → start + done ≤ x → x < start + end
    → due_in m (slice_range have done end) (slice_range want done end) (start + done) x ≡ due_in m have want start x
due_part m have want start done end x order from upto =
    let place : x - (start + done) ≡ (x - start) - done = omega arith in
    let at : (xs : List ℕ) → slice_index (slice_range xs done end) (x - (start + done)) ≡ slice_index xs (x - start) =
    λ xs. ap (slice_index (slice_range xs done end)) place ∙ range_at xs done end (x - start) (omega arith) (omega arith) in
    due_by m _ _ _ _ (at have) (at want)

-- a byte of a block, of those of the chip
due_whole : (m : Parameters) (content target have want : List ℕ) (start x : ℕ) → HasPart content have start → HasPart target want start
    → length have ≡ length want → start ≤ x → x < start + length have → due_in m have want start x ≡ is_due m content target x
due_whole m content target have want start x first second lengths from upto =
    let place : start + (x - start) ≡ x = omega arith in
    due_by m _ _ _ _
    (sym (first.same (x - start) (omega arith)) ∙ ap (slice_index content) place)
    (sym (second.same (x - start) (omega arith)) ∙ ap (slice_index target) place)

pub reason_same : (due other : ℕ → Bool) (start size : ℕ) → ((x : ℕ) → start ≤ x → x < start + size → due x ≡ other x) → reason due start size ≡ reason other start size
reason_same due other start size same = ap (because start) (find_same due other size start same)

-- the reasons within a block are by the bytes of the block
reasons_same : (m : Parameters) (b : Block) (due other : ℕ → Bool) → IsAccepted m → IsLegalBlock m b
    → ((x : ℕ) → b.start ≤ x → x < b.start + b.size → due x ≡ other x) → reasons m due b.start b.size ≡ reasons m other b.start b.size
reasons_same m b due other accepted legal same =
    flat_same (reason_at m due) (reason_at m other) b.size b.start (λ x from upto. by_found x from upto (smallest m x) refl)
  where
    by_found : (x : ℕ) → b.start ≤ x → x < b.start + b.size → (o : Option Block) → smallest m x ≡ o → reason_at m due x ≡ reason_at m other x
    by_found x from upto None found = rw found refl
    by_found x from upto (Some s) found =
        let lies = holds_smallest m x b.kind b s accepted (at_address m x b accepted legal (from, upto)) found in
        let told = reason_same due other s.start s.size (λ y low high. same y (omega (arith, lies.0)) (omega (arith, lies.1))) in
        rw found (ap (λ xs. if s.start == x then xs else []) told)

run_told : (target : List ℕ) (r : Run) → r.at + r.len ≤ length target → run_line r ≡ program_line (run_program target r)
run_told target r fits =
    let size : r.len ≡ length (slice_range target r.at (r.at + r.len)) = omega (arith, length-range target r.at (r.at + r.len) (omega arith) fits) in
    ap (λ n. Program r.at n) size

runs_told : (target : List ℕ) (low high : ℕ) (runs : List Run) → high ≤ length target → AllByRecursion (LiesBetween low high) runs
    → map run_line runs ≡ map program_line (map (run_program target) runs)
runs_told target low high [] fits each = refl
runs_told target low high (r ∷ runs) fits each =
    ap (λ l. l ∷ map run_line runs) (run_told target r (omega (arith, each.0.upto)))
    ∙ ap (λ ls. program_line (run_program target r) ∷ ls) (runs_told target low high runs fits each.1)

pub part_told : (m : Parameters) (by : Strategy) (planned : PlanUnit) (runs : List Run) (have want : List ℕ) → IsAccepted m → length have ≡ length want
    → IsPlanned m by planned (length want) → AreBetween (unit_start planned) (unit_start planned + length want) (length want) runs
    → IsSplit m planned have want runs → AreUnitLines m by (unit_bytes planned have want) (part_lines m by (due_in m have want (unit_start planned)) planned runs)
part_told m by (unit.Block b) runs have want accepted lengths is between split content level target part has =
    let due = is_due m content target in
    let its_reasons = reasons_same m b (due_in m have want b.start) due accepted is.1.legal
    (λ x from upto. due_whole m content target have want b.start x part has.1 lengths from (omega (arith, upto, is.0))) in
    let its_runs = runs_told target b.start (b.start + length want) runs has.1.fits between.each in
    ap (λ ps. erase_lines m by due (Some b) ++ map program_line ps) (sym (split level target has.0 has.1))
    ∙ ap (λ ls. erase_lines m by due (Some b) ++ ls) (sym its_runs)
    ∙ ap (λ ls. Erase b.start b.size (erasing m by b).op ∷ (ls ++ map run_line runs)) (sym its_reasons)
part_told m by (unit.Page start) runs have want accepted lengths is between split content level target part has =
    ap (map program_line) (sym (split level target has.0 has.1)) ∙ sym (runs_told target start (start + length want) runs has.1.fits between.each)
