-- Sums over the lines of units.
use Rattle.std.proofs.Common.{◌≡◌, ℕ, ◌+◌, ◌-◌, ◌*◌, ◌/◌, ◌==◌, Bool, true, false, if◌then◌else◌, List, [], ◌∷◌, map, Option, Some, None, refl, sym, ◌∙◌, ap, arith}
use Rattle.std.specs.Prelude.{flat_map, sum_by, slice_index}
use Rattle.std.specs.List.{AllByRecursion}
use Rattle.std.specs.Option.{option_map_or}
use Rattle.std.proofs.lemmas.Grind.{flat_map-append}
use Rattle.std.proofs.lemmas.List.Sums.{sum_by-cons, sum_by-append}
use Rattle.nor_base.specs.declared.meaning.Strategy.{Strategy}
use Rattle.nor_base.specs.Accepted.{IsAccepted}
use Rattle.nor_base.specs.Parameters.{Parameters}
use Rattle.nor_base.specs.Blocks.{Block, IsLegalBlock}
use Rattle.nor_base.specs.Need.{is_due, erased_at, levelled}
use Rattle.nor_base.specs.Operations.{erasing}
use Rattle.nor_base.specs.Programs.{Program, page_programs}
use Rattle.nor_base.specs.Strategies.{strategy, reaches}
use Rattle.nor_base.specs.Units.{WorkUnit, pages, page_unit, block_unit, unit_by, units, units_over}
use Rattle.nor_plan_laws.specs.Least.{ErasesBlocks}
use Rattle.nor_outline.specs.declared.line.PlanLine.{PlanLine}
use Rattle.nor_outline.specs.declared.line.PlanLine.TheVariants as line
use Rattle.nor_times.specs.declared.busy.Busy.{Busy}
use Rattle.nor_times.specs.declared.times.Times.{Times}
use Rattle.nor_times.specs.Busy.{typical_of, worst_of, busy_of}
use Rattle.nor_times.specs.UnitTimes.{block_time, bytes_time, unit_sum}
use Rattle.nor_times.specs.Law.{ErasesAreNamed, BusyIsOfUnits}
use Rattle.nor_outline.specs.Outline.{reasons, erase_lines, program_line, unit_plan}
use Rattle.nor_times.proofs.LineLemmas.{IsQuiet, reasons_quiet}

-- what a number of a line is: none of a reason; of a block that may be erased, and of a program
record IsSummed (m : Parameters) (by : Strategy) (f : PlanLine → ℕ) (erase : Block → ℕ) (program : Program → ℕ) : Type 0 where
  pub quiet : (l : PlanLine) → IsQuiet l → f l ≡ 0
  pub of_block : (b : Block) → IsLegalBlock m b → reaches by m b.kind b.start ≡ true → f (line.Erase b.start b.size (erasing m by b).op) ≡ erase b
  pub of_program : (p : Program) → f (program_line p) ≡ program p

quiet_sum : (f : PlanLine → ℕ) (ls : List PlanLine) → ((l : PlanLine) → IsQuiet l → f l ≡ 0) → AllByRecursion IsQuiet ls → sum_by f ls ≡ 0
quiet_sum f [] none all = refl
quiet_sum f (l ∷ ls) none all =
    let sum = sum_by-cons f l ls in
    let first = none l all.0 in
    let rest = quiet_sum f ls none all.1 in
    omega (arith, sum, first, rest)

programs_sum : (m : Parameters) (by : Strategy) (f : PlanLine → ℕ) (erase : Block → ℕ) (program : Program → ℕ) → IsSummed m by f erase program → (ps : List Program)
    → sum_by f (map program_line ps) ≡ sum_by program ps
programs_sum m by f erase program s [] = refl
programs_sum m by f erase program s (p ∷ ps) =
    sum_by-cons f (program_line p) (map program_line ps) ∙ ap (λ n. n + sum_by f (map program_line ps)) (s.of_program p)
    ∙ ap (λ n. program p + n) (programs_sum m by f erase program s ps) ∙ sym (sum_by-cons program p ps)

-- the units that start with a page
one_unit : (f : PlanLine → ℕ) (g : WorkUnit → ℕ) (plan : WorkUnit → List PlanLine) (u : WorkUnit) → sum_by f (plan u) ≡ g u
    → sum_by f (flat_map plan (u ∷ [])) ≡ sum_by g (u ∷ [])
one_unit f g plan u is =
    let lines = sum_by-append f (plan u) [] in
    let sum = sum_by-cons g u [] in
    omega (arith, lines, sum, is)

block_sum : (m : Parameters) (by : Strategy) (due : ℕ → Bool) (f : PlanLine → ℕ) (erase : Block → ℕ) (program : Program → ℕ) (level want : List ℕ) (b : Block)
    → IsSummed m by f erase program → IsLegalBlock m b → reaches by m b.kind b.start ≡ true
    → sum_by f (unit_plan m by due (block_unit m level want b)) ≡ unit_sum erase program (block_unit m level want b)
block_sum m by due f erase program level want b s legal reached =
    let ps = flat_map (page_programs m level want) (pages m.page b.start (b.size / m.page)) in
    let lines = sum_by-append f (erase_lines m by due (Some b)) (map program_line ps) in
    let first = sum_by-cons f (line.Erase b.start b.size (erasing m by b).op) (reasons m due b.start b.size) in
    let it = s.of_block b legal reached in
    let none = quiet_sum f (reasons m due b.start b.size) s.quiet (reasons_quiet m due b.start b.size) in
    let programs = programs_sum m by f erase program s ps in
    omega (arith, lines, first, it, none, programs)

if_sum : (m : Parameters) (by : Strategy) (due : ℕ → Bool) (f : PlanLine → ℕ) (erase : Block → ℕ) (program : Program → ℕ) (level want : List ℕ) (b : Block) (t : Bool)
    → IsSummed m by f erase program → IsLegalBlock m b → reaches by m b.kind b.start ≡ true
    → sum_by f (flat_map (unit_plan m by due) (if t then block_unit m level want b ∷ [] else [])) ≡ sum_by (unit_sum erase program) (if t then block_unit m level want b ∷ [] else [])
if_sum m by due f erase program level want b false s legal reached = refl
if_sum m by due f erase program level want b true s legal reached =
    one_unit f (unit_sum erase program) (unit_plan m by due) (block_unit m level want b) (block_sum m by due f erase program level want b s legal reached)

page_sum : (m : Parameters) (by : Strategy) (due : ℕ → Bool) (f : PlanLine → ℕ) (erase : Block → ℕ) (program : Program → ℕ) (start : ℕ) (ps : List Program)
    → IsSummed m by f erase program → sum_by f (flat_map (unit_plan m by due) (page_unit m start ps)) ≡ sum_by (unit_sum erase program) (page_unit m start ps)
page_sum m by due f erase program start [] s = refl
page_sum m by due f erase program start (p ∷ ps) s =
    let u : WorkUnit = record { erase = None; start = start; size = m.page; programs = p ∷ ps } in
    one_unit f (unit_sum erase program) (unit_plan m by due) u (programs_sum m by f erase program s (p ∷ ps) ∙ more (sum_by program (p ∷ ps)))
  where
    more : (n : ℕ) → n ≡ 0 + n
    more n = omega arith

by_sum : (m : Parameters) (by : Strategy) (due : ℕ → Bool) (f : PlanLine → ℕ) (erase : Block → ℕ) (program : Program → ℕ) (level want : List ℕ) (start : ℕ)
    (o : Option Block) → ErasesBlocks → IsAccepted m → IsSummed m by f erase program → erased_at m by due start ≡ o
    → sum_by f (flat_map (unit_plan m by due) (unit_by m level want start o)) ≡ sum_by (unit_sum erase program) (unit_by m level want start o)
by_sum m by due f erase program level want start (Some b) law accepted s is =
    let e = law m by due start b accepted is in
    if_sum m by due f erase program level want b (b.start == start) s e.legal e.reached
by_sum m by due f erase program level want start None law accepted s is = page_sum m by due f erase program start (page_programs m level want start) s

over_sum : (m : Parameters) (by : Strategy) (due : ℕ → Bool) (f : PlanLine → ℕ) (erase : Block → ℕ) (program : Program → ℕ) (level want : List ℕ) → ErasesBlocks
    → IsAccepted m → IsSummed m by f erase program → (starts : List ℕ)
    → sum_by f (flat_map (unit_plan m by due) (flat_map (λ start. unit_by m level want start (erased_at m by due start)) starts))
    ≡ sum_by (unit_sum erase program) (flat_map (λ start. unit_by m level want start (erased_at m by due start)) starts)
over_sum m by due f erase program level want law accepted s [] = refl
over_sum m by due f erase program level want law accepted s (start ∷ starts) =
    let us = unit_by m level want start (erased_at m by due start) in
    let more = flat_map (λ first. unit_by m level want first (erased_at m by due first)) starts in
    let lines = ap (sum_by f) (flat_map-append (unit_plan m by due) us more) in
    let both = sum_by-append f (flat_map (unit_plan m by due) us) (flat_map (unit_plan m by due) more) in
    let first = by_sum m by due f erase program level want start (erased_at m by due start) law accepted s refl in
    let rest = over_sum m by due f erase program level want law accepted s starts in
    let sums = sum_by-append (unit_sum erase program) us more in
    lines ∙ both ∙ ap (λ n. n + sum_by f (flat_map (unit_plan m by due) more)) first ∙ ap (λ n. sum_by (unit_sum erase program) us + n) rest ∙ sym sums

-- times of lines
quiet_typical : (t : Times) (m : Parameters) (l : PlanLine) → IsQuiet l → typical_of t m l ≡ 0
quiet_typical t m (line.Erase start size opcode) quiet = cc
quiet_typical t m (line.Because start cause) quiet = refl
quiet_typical t m (line.Program start count) quiet = cc

quiet_worst : (t : Times) (m : Parameters) (l : PlanLine) → IsQuiet l → worst_of t m l ≡ 0
quiet_worst t m (line.Erase start size opcode) quiet = cc
quiet_worst t m (line.Because start cause) quiet = refl
quiet_worst t m (line.Program start count) quiet = cc

abbrev busy : ℕ → ℕ → Busy
busy typical worst = record { typical = typical; worst = worst }

both_sums : (a b c d : ℕ) → a ≡ b → c ≡ d → busy a c ≡ busy b d
both_sums a b c d first second = ap (λ n. busy n c) first ∙ ap (λ n. busy b n) second

pub busy_is_of_units : ErasesBlocks → ErasesAreNamed → BusyIsOfUnits
unfolding busy_of units units_over
busy_is_of_units law named t m start have want w =
    let by = strategy m start in
    let due = is_due m have want in
    let level = levelled m by due have in
    let of_kind : (o : Option ℕ) → ℕ = λ o. option_map_or (λ kind. slice_index t.erases (kind - 1)) o 0 in
    let typical : IsSummed m by (typical_of t m) (block_time t) (bytes_time t) =
    record { quiet = quiet_typical t m; of_block = λ b legal reached. ap of_kind (named m by b w.accepted legal reached); of_program = λ p. refl } in
    let worst : IsSummed m by (worst_of t m) (λ b. block_time t b * t.erase_factor) (λ p. bytes_time t p * t.program_factor) =
    record {
      quiet = quiet_worst t m;
      of_block = λ b legal reached. ap (λ o. of_kind o * t.erase_factor) (named m by b w.accepted legal reached);
      of_program = λ p. refl;
    } in
    let first = over_sum m by due (typical_of t m) (block_time t) (bytes_time t) level want law w.accepted typical (pages m.page 0 (m.size / m.page)) in
    let second = over_sum m by due (worst_of t m) (λ b. block_time t b * t.erase_factor) (λ p. bytes_time t p * t.program_factor) level want law w.accepted worst
    (pages m.page 0 (m.size / m.page)) in
    both_sums _ _ _ _ first second
