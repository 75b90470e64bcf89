-- Each operation of verified units that changes bytes comes before reads of them, against the target.
use Rattle.std.proofs.Common.{◌≡◌, ◌⊎◌, ℕ, zero, suc, ◌+◌, ◌/◌, ◌<◌, ◌≤◌, true, List, [], ◌∷◌, ◌++◌, length, map, Option, Some, None, refl, sym, ap, arith, inl, inr}
use Rattle.std.specs.Prelude.{flat_map}
use Rattle.std.specs.List.{slice_range, AllByRecursion}
use Rattle.std.proofs.lemmas.Bool.{cases_lt}
use Rattle.nor_base.specs.declared.meaning.Start.{Start}
use Rattle.nor_base.specs.Parameters.{Parameters, block_size}
use Rattle.nor_base.specs.Blocks.{Block}
use Rattle.nor_base.specs.Chip.{may_page}
use Rattle.nor_base.specs.Strategies.{strategy}
use Rattle.nor_base.specs.Need.{is_due, erased_at, levelled}
use Rattle.nor_base.specs.Programs.{Program, program_end, target_bytes}
use Rattle.nor_base.specs.Units.{WorkUnit, pages, units}
use Rattle.nor_base.specs.Operations.{Op, erases, writes, reads, unit_reads, unit_erases, unit_ops}
use Rattle.nor_base.specs.Planned.{planned_units, planned_ops, IsWorkable}
use Rattle.nor_plan_laws.specs.Able.{IsInPage}
use Rattle.nor_plan_laws.proofs.Units.Ranges.{length-range}
use Rattle.nor_plan_laws.proofs.Task.Made.{ArePut, IsSoundBy, AreSoundUnits}
use Rattle.nor_plan_laws.proofs.Units.Walk.{EndsAt, within, block_ends}
use Rattle.nor_plan_laws.proofs.Erased.Erasing.{erased_for}
use Rattle.nor_plan_laws.proofs.Task.Whole.{units_sound}
use Rattle.nor_plan_laws.proofs.Spelling.Sent.{IsFrom, units_from}
use Rattle.nor_plan_laws.proofs.Runs.Exact.{IsReadOp, reads_only}

-- the operation reads the address, against the target
abbrev pub RereadsOp : List ℕ → ℕ → Op → Type 0
RereadsOp want a (erases b) = ⊥
RereadsOp want a (writes p) = ⊥
RereadsOp want a (reads p) = (p.at ≤ a) × (a < program_end p) × (p.bytes ≡ slice_range want p.at (program_end p))

-- one of the operations does
abbrev pub IsReread : List ℕ → ℕ → List Op → Type 0
IsReread want a [] = ⊥
IsReread want a (op ∷ ops) = RereadsOp want a op ⊎ IsReread want a ops

-- each address that an operation changes is read by a later one; a program lies in one page
abbrev pub IsCovered : Parameters → ℕ → List ℕ → Op → List Op → Type 0
IsCovered m page want (erases b) later = (a : ℕ) → b.start ≤ a → a < b.start + block_size m b.kind → IsReread want a later
IsCovered m page want (writes p) later = IsInPage page p × ((a : ℕ) → p.at ≤ a → a < program_end p → IsReread want a later)
IsCovered m page want (reads p) later = Unit {0}

abbrev pub AreCovered : Parameters → ℕ → List ℕ → List Op → Type 0
AreCovered m page want [] = Unit {0}
AreCovered m page want (op ∷ ops) = IsCovered m page want op ops × AreCovered m page want ops

-- what is read among some operations is read among more
sooner : (want : List ℕ) (a : ℕ) (xs ys : List Op) → IsReread want a xs → IsReread want a (xs ++ ys)
sooner want a [] ys h = absurd h
sooner want a (x ∷ xs) ys (inl here) = inl here
sooner want a (x ∷ xs) ys (inr later) = inr (sooner want a xs ys later)

later_on : (want : List ℕ) (a : ℕ) (xs ys : List Op) → IsReread want a ys → IsReread want a (xs ++ ys)
later_on want a [] ys h = h
later_on want a (x ∷ xs) ys h = inr (later_on want a xs ys h)

covered_more : (m : Parameters) (page : ℕ) (want : List ℕ) (op : Op) (xs ys : List Op) → IsCovered m page want op xs → IsCovered m page want op (xs ++ ys)
covered_more m page want (erases b) xs ys h = λ a from upto. sooner want a xs ys (h a from upto)
covered_more m page want (writes p) xs ys h = (h.0, λ a from upto. sooner want a xs ys (h.1 a from upto))
covered_more m page want (reads p) xs ys h = tt

covered_then : (m : Parameters) (page : ℕ) (want : List ℕ) (xs ys : List Op) → AreCovered m page want xs → AreCovered m page want ys → AreCovered m page want (xs ++ ys)
covered_then m page want [] ys first second = second
covered_then m page want (x ∷ xs) ys first second = (covered_more m page want x xs ys first.0, covered_then m page want xs ys first.1 second)

-- reads change nothing
reads_covered : (m : Parameters) (page : ℕ) (want : List ℕ) (ops : List Op) → AllByRecursion IsReadOp ops → AreCovered m page want ops
reads_covered m page want [] all = tt
reads_covered m page want (erases b ∷ ops) all = absurd all.0
reads_covered m page want (writes p ∷ ops) all = absurd all.0
reads_covered m page want (reads p ∷ ops) all = (tt, reads_covered m page want ops all.1)

-- a program that the reads after it cover
abbrev IsReadBack : ℕ → List ℕ → List Op → Program → Type 0
IsReadBack page want rs p = IsInPage page p × ((a : ℕ) → p.at ≤ a → a < program_end p → IsReread want a rs)

writes_covered : (m : Parameters) (page : ℕ) (want : List ℕ) (rs : List Op) (ps : List Program) → AllByRecursion (IsReadBack page want rs) ps → AreCovered m page want rs
    → AreCovered m page want (map writes ps ++ rs)
writes_covered m page want rs [] all covered = covered
writes_covered m page want rs (p ∷ ps) all covered =
    ((all.0.0, λ a from upto. later_on want a (map writes ps) rs (all.0.1 a from upto)), writes_covered m page want rs ps all.1 covered)

-- programs that are read themselves
themselves : (m : Parameters) (page : ℕ) (level want : List ℕ) (high : ℕ) (rs : List Op) (ps : List Program) (low : ℕ) → ArePut m page level want low high ps
    → ((a : ℕ) → IsReread want a (map reads ps) → IsReread want a rs) → AllByRecursion (IsReadBack page want rs) ps
themselves m page level want high rs [] low put among = tt
themselves m page level want high rs (p ∷ ps) low put among = (
  (put.0.in_page, λ a from upto. among a (inl (from, upto, put.0.puts))),
  themselves m page level want high rs ps (program_end p) put.1 (λ a h. among a (inr h)),
)

-- programs of a stretch that is read
of_stretch : (m : Parameters) (page : ℕ) (level want : List ℕ) (start high : ℕ) (rs : List Op) (ps : List Program) (low : ℕ) → start ≤ low
    → ArePut m page level want low high ps → ((a : ℕ) → start ≤ a → a < high → IsReread want a rs) → AllByRecursion (IsReadBack page want rs) ps
of_stretch m page level want start high rs [] low from put all = tt
of_stretch m page level want start high rs (p ∷ ps) low from put all = (
  (put.0.in_page, λ a first upto. all a (omega (arith, from, put.0.from, first)) (omega (arith, upto, put.0.upto))),
  of_stretch m page level want start high rs ps (program_end p) (omega (arith, from, put.0.from)) put.1 all,
)

-- a stretch read page by page
pages_reread : (page : ℕ) (want : List ℕ) (high : ℕ) → high ≤ length want → (n start a : ℕ) → EndsAt page start n high → start ≤ a → a < high
    → IsReread want a (map (λ first. reads (target_bytes want first (first + page))) (pages page start n))
pages_reread page want high inside zero start a ends from upto = absurd (omega (arith, ends, from, upto))
pages_reread page want high inside (suc n) start a ends from upto =
    let fits = within page n (start + page) high ends in
    let long = length-range want start (start + page) (omega arith) (omega (arith, fits, inside)) in
    let end : start + length (slice_range want start (start + page)) ≡ start + page = omega (arith, long) in
    elim (cases_lt a (start + page)) [
      | inl here ↦ inl (from, omega (arith, end, here), ap (slice_range want start) (sym end))
      | inr past ↦ inr (pages_reread page want high inside n (start + page) a ends past upto)
    ]

-- the operations of a unit
unit_by : (m : Parameters) (page : ℕ) (level have want : List ℕ) (u : WorkUnit) (e : Option Block) → u.start + u.size ≤ length want
    → ArePut m page level want u.start (u.start + u.size) u.programs → IsSoundBy m page level have want u e
    → ((b : Block) → e ≡ Some b → EndsAt m.page b.start (b.size / m.page) (b.start + b.size)) → AllByRecursion IsReadOp (unit_reads m want u e)
    → AreCovered m page want (unit_erases e ++ (map writes u.programs ++ unit_reads m want u e))
unit_by m page level have want u None inside put sound ends only =
    writes_covered m page want (map reads u.programs) u.programs
    (themselves m page level want (u.start + u.size) (map reads u.programs) u.programs u.start put (λ a h. h)) (reads_covered m page want (map reads u.programs) only)
unit_by m page level have want u (Some b) inside put sound ends only =
    let rs = unit_reads m want u (Some b) in
    let all : (a : ℕ) → b.start ≤ a → a < b.start + b.size → IsReread want a rs = λ a from upto.
    pages_reread m.page want (b.start + b.size) (omega (arith, sound.start_is, sound.size_is, inside)) (b.size / m.page) b.start a (ends b refl) from upto in (
      (λ a from upto. later_on want a (map writes u.programs) rs (all a from (omega (arith, upto, sound.can.size)))),
      writes_covered m page want rs u.programs
          (of_stretch m page level want u.start (u.start + u.size) rs u.programs u.start (omega arith) put
          (λ a from upto. all a (omega (arith, from, sound.start_is)) (omega (arith, upto, sound.start_is, sound.size_is))))
          (reads_covered m page want rs only),
    )

units_covered : (m : Parameters) (page : ℕ) (level have want : List ℕ) (erased : ℕ → Option Block)
    → ((a : ℕ) (b : Block) → erased a ≡ Some b → EndsAt m.page b.start (b.size / m.page) (b.start + b.size)) → (us : List WorkUnit) (low : ℕ)
    → AllByRecursion (IsFrom level want erased) us → AreSoundUnits m page level have want low us → AreCovered m page want (flat_map (unit_ops m true want) us)
units_covered m page level have want erased ends [] low from sound = tt
units_covered m page level have want erased ends (u ∷ us) low from sound =
    covered_then m page want (unit_ops m true want u) (flat_map (unit_ops m true want) us)
    (unit_by m page level have want u u.erase sound.2.inside sound.2.put sound.2.kind (λ b is. let found = from.0.block b is in ends found.0 b found.1)
    (reads_only m want u true))
    (units_covered m page level have want erased ends us (u.start + u.size) from.1 sound.3)

pub planned_covered : (m : Parameters) (start : Start) (page : ℕ) (have want : List ℕ) → IsWorkable m start have want → may_page m page ≡ true
    → AreCovered m page want (planned_ops m start true have want)
unfolding units
planned_covered m start page have want w may =
    let level = levelled m (strategy m start) (is_due m have want) have in
    let erased = erased_at m (strategy m start) (is_due m have want) in
    units_covered m page level have want erased (λ a b is. block_ends m erased a b (erased_for m (strategy m start) (is_due m have want) a b w.accepted is))
    (planned_units m start have want) 0 (units_from m level want erased (pages m.page 0 (m.size / m.page))) (units_sound m start page have want w may)
