-- A unit's operations, by its runs.
use Rattle.std.proofs.Common.{◌≡◌, ℕ, zero, suc, ◌+◌, ◌-◌, ◌*◌, ◌/◌, ◌%◌, ◌<◌, ◌≤◌, true, false, if◌then◌else◌, List, [], ◌∷◌, ◌++◌, length, map, Option, Result, Ok, Err, refl, sym, ◌∙◌, ap, subst, arith, ext_get_or, inl}
use Rattle.std.specs.Prelude.{flat_map}
use Rattle.std.specs.List.{slice_index, slice_range, AllByRecursion}
use Rattle.std.proofs.Math.Nat.{div-add-mod'}
use Rattle.nor_base.specs.Blocks.{Block}
use Rattle.nor_base.specs.Programs.{Program, target_bytes, page_programs}
use Rattle.nor_base.specs.Units.{pages}
use Rattle.nor_base.specs.Operations.{Op, erases, writes, reads}
use Rattle.nor_geometry.specs.declared.unit.PlanUnit.{PlanUnit}
use Rattle.nor_geometry.specs.declared.unit.PlanUnit.TheVariants as unit
use Rattle.nor_geometry.specs.Plan.{HasPart}
use Rattle.nor_pages.specs.declared.run.Run.{Run}
use Rattle.nor_pages.specs.Runs.{IsUnit, IsSplit, LiesBetween, AreBetween, run_program, unit_start}
use Rattle.nor_steps.specs.declared.tally.Tally.{Tally}
use Rattle.nor_steps.specs.declared.fault.StepsFault.{StepsFault}
use Rattle.nor_steps.specs.Units.{part_of, run_op, run_ops, page_read, page_reads, block_ops, page_ops, AreUnitOps, Writes, WritesUnit, unit_bytes}
use Rattle.nor_steps.specs.Writing.{Writing, output}
use Rattle.nor_plan_laws.proofs.Units.Ranges.{length-range, range_at}

-- bytes of the chip that lie in a part of it
part_range : (target want : List ℕ) (start a n : ℕ) → HasPart target want start → start ≤ a → a + n ≤ start + length want
    → slice_range target a (a + n) ≡ slice_range want (a - start) (a - start + n)
part_range target want start a n part from upto =
    let fits = part.fits in
    let left : length (slice_range target a (a + n)) ≡ (a + n) - a = length-range target a (a + n) (omega arith) (omega (arith, fits, upto)) in
    let right : length (slice_range want (a - start) (a - start + n)) ≡ (a - start + n) - (a - start) =
    length-range want (a - start) (a - start + n) (omega arith) (omega (arith, from, upto)) in
    ext_get_or 0 (slice_range target a (a + n)) (slice_range want (a - start) (a - start + n)) (omega (arith, left, right)) (λ k inside.
    let here : k < n = omega (arith, inside, left) in
    let at : (a + k) - a ≡ k = omega arith in
    let at' : (a - start + k) - (a - start) ≡ k = omega arith in
    let place : start + (a - start + k) ≡ a + k = omega (arith, from) in
    ap (slice_index (slice_range target a (a + n))) (sym at) ∙ range_at target a (a + n) (a + k) (omega arith) (omega (arith, here))
    ∙ ap (slice_index target) (sym place) ∙ part.same (a - start + k) (omega (arith, here, from, upto))
    ∙ sym (range_at want (a - start) (a - start + n) (a - start + k) (omega arith) (omega (arith, here)))
    ∙ ap (slice_index (slice_range want (a - start) (a - start + n))) at')

same_bytes : (target want : List ℕ) (start a n : ℕ) → HasPart target want start → start ≤ a → a + n ≤ start + length want → target_bytes target a (a + n) ≡ part_of start want a n
same_bytes target want start a n part from upto = ap (λ bytes. program a bytes) (part_range target want start a n part from upto)
  where
    program : ℕ → List ℕ → Program
    program at bytes = record { at = at; bytes = bytes }

-- the programs of runs, and their reads
runs_are : (f : Program → Op) (g : Run → Op) (target want : List ℕ) (start : ℕ) (runs : List Run) → ((r : Run) → g r ≡ f (part_of start want r.at r.len)) → HasPart target want start
    → AllByRecursion (LiesBetween start (start + length want)) runs → map f (map (run_program target) runs) ≡ map g runs
runs_are f g target want start [] same part between = refl
runs_are f g target want start (r ∷ runs) same part between =
    let first : f (run_program target r) ≡ g r = ap f (same_bytes target want start r.at r.len part between.0.from between.0.upto) ∙ sym (same r) in
    ap (λ op. op ∷ map f (map (run_program target) runs)) first ∙ ap (λ ops. g r ∷ ops) (runs_are f g target want start runs same part between.1)

pages_are : (target want : List ℕ) (start page : ℕ) → HasPart target want start → (n a : ℕ) → start ≤ a → a + n * page ≤ start + length want
    → map (λ x. reads (target_bytes target x (x + page))) (pages page a n) ≡ map (page_read start page want) (pages page a n)
pages_are target want start page part zero a from upto = refl
pages_are target want start page part (suc n) a from upto =
    let more : suc n * page ≡ n * page + page = omega arith in
    let first : reads (target_bytes target a (a + page)) ≡ page_read start page want a = ap reads (same_bytes target want start a page part from (omega (arith, upto, more))) in
    ap (λ op. op ∷ map (λ x. reads (target_bytes target x (x + page))) (pages page (a + page) n)) first
    ∙ ap (λ ops. page_read start page want a ∷ ops) (pages_are target want start page part n (a + page) (omega (arith, from)) (omega (arith, upto, more)))

-- of a block
block_is : (w : Writing) (b : Block) (have want : List ℕ) (runs : List Run) → IsUnit w.streaming.meaning (unit.Block b) (length want)
    → AreBetween b.start (b.start + length want) (length want) runs → IsSplit w.streaming.meaning (unit.Block b) have want runs
    → AreUnitOps w (unit.Block b) have want (block_ops w b runs want)
block_is w b have want runs its between split level target has =
    let m = w.streaming.meaning in
    let part = has.1 in
    let whole : b.size / m.page * m.page + b.size % m.page ≡ b.size = div-add-mod' b.size m.page in
    let size : length want ≡ b.size = its.0 in
    let programs : map writes (flat_map (page_programs m level target) (pages m.page b.start (b.size / m.page))) ≡ run_ops false b.start want runs =
    ap (map writes) (sym (split level target has.0 part)) ∙ runs_are writes (run_op false b.start want) target want b.start runs (λ r. refl) part between.each in
    let reading : map (λ x. reads (target_bytes target x (x + m.page))) (pages m.page b.start (b.size / m.page)) ≡ page_reads b.start m.page want =
    pages_are target want b.start m.page part (b.size / m.page) b.start (omega arith) (omega (arith, whole, size))
    ∙ ap (λ n. map (page_read b.start m.page want) (pages m.page b.start (n / m.page))) (sym size) in
    ap (λ ops. erases b ∷ (ops ++ (if w.verify then map (λ x. reads (target_bytes target x (x + m.page))) (pages m.page b.start (b.size / m.page)) else []))) programs
    ∙ ap (λ ops. erases b ∷ (run_ops false b.start want runs ++ (if w.verify then ops else []))) reading

-- of a page
page_is : (w : Writing) (start : ℕ) (have want : List ℕ) (runs : List Run)
    → AreBetween start (start + length want) (length want) runs → IsSplit w.streaming.meaning (unit.Page start) have want runs
    → AreUnitOps w (unit.Page start) have want (page_ops w start runs want)
page_is w start have want runs between split level target has =
    let m = w.streaming.meaning in
    let programs : map writes (page_programs m level target start) ≡ run_ops false start want runs =
    ap (map writes) (sym (split level target has.0 has.1)) ∙ runs_are writes (run_op false start want) target want start runs (λ r. refl) has.1 between.each in
    let reading : map reads (page_programs m level target start) ≡ run_ops true start want runs =
    ap (map reads) (sym (split level target has.0 has.1)) ∙ runs_are reads (run_op true start want) target want start runs (λ r. refl) has.1 between.each in
    ap (λ ops. ops ++ (if w.verify then map reads (page_programs m level target start) else [])) programs
    ∙ ap (λ ops. run_ops false start want runs ++ (if w.verify then ops else [])) reading

writes_unit : (w v : Writing) (a b : Option (List ℕ)) (u : PlanUnit) (have want : List ℕ) (ops : List Op) (r : Result Tally StepsFault) → AreUnitOps w u have want ops
    → Writes (output w a) (output v b) 1 ops r → WritesUnit (output w a) (output v b) (unit_bytes u have want) r
writes_unit w v a b u have want ops (Ok told) are written = record { ops = ops; are = are; written = written }
writes_unit w v a b u have want ops (Err why) are written = inl (record { ops = ops; are = are; written = written })

pub block_writes : (w v : Writing) (x y : Option (List ℕ)) (u : PlanUnit) (b : Block) (have want : List ℕ) (runs runs' : List Run) (r : Result Tally StepsFault) → u ≡ unit.Block b
    → runs' ≡ runs → IsUnit w.streaming.meaning u (length want) → AreBetween (unit_start u) (unit_start u + length want) (length want) runs
    → IsSplit w.streaming.meaning u have want runs → Writes (output w x) (output v y) 1 (block_ops w b runs' want) r → WritesUnit (output w x) (output v y) (unit_bytes u have want) r
block_writes w v x y u b have want runs runs' r is same its between split written =
    subst (λ (p : PlanUnit). WritesUnit (output w x) (output v y) (unit_bytes p have want) r) (sym is)
    (writes_unit w v x y (unit.Block b) have want (block_ops w b runs want) r
    (block_is w b have want runs (subst (λ (p : PlanUnit). IsUnit w.streaming.meaning p (length want)) is its)
    (subst (λ (p : PlanUnit). AreBetween (unit_start p) (unit_start p + length want) (length want) runs) is between)
    (subst (λ (p : PlanUnit). IsSplit w.streaming.meaning p have want runs) is split))
    (subst (λ rs. Writes (output w x) (output v y) 1 (block_ops w b rs want) r) same written))

pub page_writes : (w v : Writing) (x y : Option (List ℕ)) (u : PlanUnit) (start : ℕ) (have want : List ℕ) (runs runs' : List Run) (r : Result Tally StepsFault) → u ≡ unit.Page start
    → runs' ≡ runs → AreBetween (unit_start u) (unit_start u + length want) (length want) runs
    → IsSplit w.streaming.meaning u have want runs → Writes (output w x) (output v y) 1 (page_ops w start runs' want) r → WritesUnit (output w x) (output v y) (unit_bytes u have want) r
page_writes w v x y u start have want runs runs' r is same between split written =
    subst (λ (p : PlanUnit). WritesUnit (output w x) (output v y) (unit_bytes p have want) r) (sym is)
    (writes_unit w v x y (unit.Page start) have want (page_ops w start runs want) r
    (page_is w start have want runs
    (subst (λ (p : PlanUnit). AreBetween (unit_start p) (unit_start p + length want) (length want) runs) is between)
    (subst (λ (p : PlanUnit). IsSplit w.streaming.meaning p have want runs) is split))
    (subst (λ rs. Writes (output w x) (output v y) 1 (page_ops w start rs want) r) same written))
