-- A run of planned work erases just the needed area.
use Rattle.std.proofs.Common.{◌≡◌, ℕ, ◌+◌, ◌/◌, nat_le, nat_lt, Bool, true, false, ◌&&◌, if◌then◌else◌, List, [], ◌++◌, map, Option, Some, None, refl, sym, ◌∙◌, subst, arith, leb-true, ltb-true}
use Rattle.std.specs.List.{AllByRecursion, list_any, count_by}
use Rattle.std.proofs.lemmas.Bool.{and_parts, both_ways}
use Rattle.nor_base.specs.declared.instruction.What.{What}
use Rattle.nor_base.specs.declared.instruction.What.TheVariants as what
use Rattle.nor_base.specs.declared.meaning.Start.{Start}
use Rattle.nor_base.specs.declared.meaning.Strategy.{Strategy}
use Rattle.nor_base.specs.declared.step.Step.{Step}
use Rattle.nor_base.specs.Parameters.{Parameters, block_size}
use Rattle.nor_base.specs.Accepted.{IsAccepted}
use Rattle.nor_base.specs.Decoding.{Instruction}
use Rattle.nor_base.specs.Blocks.{Block}
use Rattle.nor_base.specs.Chip.{Setting, IsChipOf, ready}
use Rattle.nor_base.specs.Effect.{is_program, is_read, has_address}
use Rattle.nor_base.specs.Run.{DoesTask}
use Rattle.nor_base.specs.Strategies.{strategy}
use Rattle.nor_base.specs.Need.{is_due, is_needed, erased_at, levelled}
use Rattle.nor_base.specs.Programs.{target_bytes}
use Rattle.nor_base.specs.Units.{WorkUnit, pages, units}
use Rattle.nor_base.specs.Spelling.{seen}
use Rattle.nor_base.specs.Operations.{Op, erases, writes, reads, programming, reading, unit_reads, unit_erases, unit_ops}
use Rattle.nor_base.specs.Planned.{planned_units, planned_ops, ArePlanned, IsWorkable}
use Rattle.nor_base.specs.Events.{events, erases_address, is_erased_by}
use Rattle.nor_plan_laws.specs.Runs.{PlannedErasesNeeded}
use Rattle.nor_plan_laws.proofs.Task.Whole.{planned_works}
use Rattle.nor_plan_laws.proofs.Erased.Erasing.{erased_for}
use Rattle.nor_plan_laws.proofs.Erased.Needed.{erased_needed}
use Rattle.nor_plan_laws.proofs.Erased.Least.{no_script_erases_less}
use Rattle.nor_base.proofs.ListLaws.{all_append}
use Rattle.nor_plan_laws.proofs.Spelling.Sent.{IsFrom, units_from}
use Rattle.nor_plan_laws.proofs.Runs.Lists.{all_flat, all_of, all_each, any_none}
use Rattle.nor_plan_laws.proofs.Runs.Shown.{IsAddressed, passes, count_none}
use Rattle.nor_plan_laws.proofs.Runs.Counted.{doing, planned_count}
use Rattle.nor_plan_laws.proofs.Runs.Chosen.{programming_programs, reading_reads}

-- a read, or nothing
abbrev pub IsReadOp : Op → Type 0
IsReadOp (erases b) = ⊥
IsReadOp (writes p) = ⊥
IsReadOp (reads p) = Unit {0}

unit_reads_only : (m : Parameters) (want : List ℕ) (u : WorkUnit) (e : Option Block) → AllByRecursion IsReadOp (unit_reads m want u e)
unit_reads_only m want u None = all_of IsReadOp reads (λ p. tt) u.programs
unit_reads_only m want u (Some b) = all_of IsReadOp (λ start. reads (target_bytes want start (start + m.page))) (λ start. tt) (pages m.page b.start (b.size / m.page))

pub reads_only : (m : Parameters) (want : List ℕ) (u : WorkUnit) (verify : Bool) → AllByRecursion IsReadOp (if verify then unit_reads m want u u.erase else [])
reads_only m want u true = unit_reads_only m want u u.erase
reads_only m want u false = tt

-- an erase alone erases
abbrev pub erases_at : Parameters → ℕ → Instruction → Bool
erases_at m a j = erases_address m a j j.what

pub erase_addressed : (m : Parameters) (a : ℕ) → IsAddressed (erases_at m a)
erase_addressed m a j none = by_what j.what none
  where
    by_what : (w : What) → has_address w ≡ false → erases_address m a j w ≡ false
    by_what (what.Erase kind) none = cc
    by_what other none = refl

pub program_erases_none : (m : Parameters) (a : ℕ) (j : Instruction) (w : What) → is_program w ≡ true → erases_address m a j w ≡ false
program_erases_none m a j what.Program is = refl
program_erases_none m a j what.QuadProgram is = refl
program_erases_none m a j other is = cc

pub read_erases_none : (m : Parameters) (a : ℕ) (j : Instruction) (w : What) → is_read w ≡ true → erases_address m a j w ≡ false
read_erases_none m a j what.Read is = refl
read_erases_none m a j what.QuadRead is = refl
read_erases_none m a j other is = cc

-- an operation of the work whose block is erased, if it has one
abbrev IsOfErased : (ℕ → Option Block) → Op → Type 0
IsOfErased erased (erases b) = (a : ℕ) × (erased a ≡ Some b)
IsOfErased erased (writes p) = Unit {0}
IsOfErased erased (reads p) = Unit {0}

erase_of : (level want : List ℕ) (erased : ℕ → Option Block) (u : WorkUnit) (e : Option Block) → u.erase ≡ e → IsFrom level want erased u
    → AllByRecursion (IsOfErased erased) (unit_erases e)
erase_of level want erased u None is from = tt
erase_of level want erased u (Some b) is from = (from.block b is, tt)

read_of : (erased : ℕ → Option Block) (op : Op) → IsReadOp op → IsOfErased erased op
read_of erased (erases b) is = absurd is
read_of erased (writes p) is = tt
read_of erased (reads p) is = tt

unit_of : (m : Parameters) (level want : List ℕ) (erased : ℕ → Option Block) (verify : Bool) (u : WorkUnit) → IsFrom level want erased u
    → AllByRecursion (IsOfErased erased) (unit_ops m verify want u)
unit_of m level want erased verify u from =
    all_append (IsOfErased erased) (unit_erases u.erase) (map writes u.programs ++ (if verify then unit_reads m want u u.erase else []))
    (erase_of level want erased u u.erase refl from)
    (all_append (IsOfErased erased) (map writes u.programs) (if verify then unit_reads m want u u.erase else []) (all_of (IsOfErased erased) writes (λ p. tt) u.programs)
    (all_each IsReadOp (IsOfErased erased) (read_of erased) (if verify then unit_reads m want u u.erase else []) (reads_only m want u verify)))

planned_of : (m : Parameters) (start : Start) (verify : Bool) (have want : List ℕ)
    → AllByRecursion (IsOfErased (erased_at m (strategy m start) (is_due m have want))) (planned_ops m start verify have want)
unfolding units
planned_of m start verify have want =
    let level = levelled m (strategy m start) (is_due m have want) have in
    let erased = erased_at m (strategy m start) (is_due m have want) in
    all_flat (IsOfErased erased) (unit_ops m verify want) (planned_units m start have want)
    (all_each (IsFrom level want erased) (λ u. AllByRecursion (IsOfErased erased) (unit_ops m verify want u)) (unit_of m level want erased verify)
    (planned_units m start have want) (units_from m level want erased (pages m.page 0 (m.size / m.page))))

-- an address that isn't needed none of them erases
spares_by : (m : Parameters) (by : Strategy) (due : ℕ → Bool) (a x : ℕ) (b : Block) (t : Bool) → IsAccepted m → is_needed m due a ≡ false → erased_at m by due x ≡ Some b
    → nat_le b.start a && nat_lt a (b.start + block_size m b.kind) ≡ t → t ≡ false
spares_by m by due a x b true accepted none is h =
    let whole = erased_for m by due x b accepted is in
    let parts = and_parts (nat_le b.start a) (nat_lt a (b.start + block_size m b.kind)) h in
    let from = leb-true b.start a parts.0 in
    let upto = ltb-true a (b.start + block_size m b.kind) parts.1 in
    let here = whole.all a from (omega (arith, upto, whole.can.size)) in
    absurd (both_ways (is_needed m due a) none (erased_needed m by due a b accepted here))
spares_by m by due a x b false accepted none is h = refl

spares : (m : Parameters) (start : Start) (by : Strategy) (due : ℕ → Bool) (a : ℕ) (op : Op) → IsAccepted m → is_needed m due a ≡ false → IsOfErased (erased_at m by due) op
    → erases_at m a (seen (doing m start by op)) ≡ false
spares m start by due a (erases b) accepted none of =
    spares_by m by due a of.0 b (nat_le b.start a && nat_lt a (b.start + block_size m b.kind)) accepted none of.1 refl
spares m start by due a (writes p) accepted none of = program_erases_none m a (seen (programming m start by p)) (programming m start by p).what (programming_programs m start by p).program
spares m start by due a (reads p) accepted none of = read_erases_none m a (seen (reading m start by p)) (reading m start by p).what (reading_reads m start by p).read

pub none_counted : (m : Parameters) (start : Start) (verify : Bool) (have want : List ℕ) (steps : List Step) → IsWorkable m start have want
    → ArePlanned m start verify have want steps → (s : Setting) → IsChipOf m start s → (a : ℕ) → is_needed m (is_due m have want) a ≡ false
    → count_by (passes (erases_at m a)) (events s (ready s have) steps) ≡ 0
none_counted m start verify have want steps w are s is a none =
    let by = strategy m start in
    let ops = planned_ops m start verify have want in
    let spared : AllByRecursion (λ op. erases_at m a (seen (doing m start by op)) ≡ false) ops =
    all_each (IsOfErased (erased_at m by (is_due m have want))) (λ op. erases_at m a (seen (doing m start by op)) ≡ false)
    (λ op of. spares m start by (is_due m have want) a op w.accepted none of) ops (planned_of m start verify have want) in
    planned_count (erases_at m a) m start verify have want steps (erase_addressed m a) w are s is
    ∙ count_none (λ op. erases_at m a (seen (doing m start by op))) ops spared

not_erased : (m : Parameters) (start : Start) (verify : Bool) (have want : List ℕ) (steps : List Step) → IsWorkable m start have want
    → ArePlanned m start verify have want steps → (s : Setting) → IsChipOf m start s → (a : ℕ) → is_needed m (is_due m have want) a ≡ false
    → is_erased_by s (events s (ready s have) steps) a ≡ false
not_erased m start verify have want steps w are s is a none =
    subst (λ (n : Parameters). list_any (passes (erases_at n a)) (events s (ready s have) steps) ≡ false) (sym is.its_meaning)
    (any_none (passes (erases_at m a)) (events s (ready s have) steps) (none_counted m start verify have want steps w are s is a none))

pub planned_erases_needed : PlannedErasesNeeded
planned_erases_needed m start verify have want steps w are s is a =
    let task = (planned_works m start verify have want steps w are s is).task in
    by_need (is_needed m (is_due m have want) a) refl task
  where
    by_need : (b : Bool) → is_needed m (is_due m have want) a ≡ b → DoesTask s have want steps → is_erased_by s (events s (ready s have) steps) a ≡ b
    by_need true needed task = no_script_erases_less m start s have want steps a w.accepted is task needed
    by_need false none task = not_erased m start verify have want steps w are s is a none
