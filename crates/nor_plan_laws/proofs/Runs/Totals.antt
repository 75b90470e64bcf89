-- A run of planned work erases and programs as often as its units do, and without verifying it reads nothing.
use Rattle.std.proofs.Common.{◌≡◌, ℕ, suc, ◌+◌, Bool, true, false, if◌then◌else◌, cond, List, [], ◌∷◌, ◌++◌, length, map, Option, Some, None, refl, sym, ◌∙◌, ap, arith}
use Rattle.std.specs.Prelude.{is_some}
use Rattle.std.specs.List.{AllByRecursion, count_by}
use Rattle.std.proofs.Math.Nat.{zero-add, add-zero}
use Rattle.std.proofs.lemmas.List.Sums.{sum_by-cons}
use Rattle.nor_base.specs.declared.instruction.What.{What}
use Rattle.nor_base.specs.declared.instruction.What.TheVariants as what
use Rattle.nor_base.specs.declared.meaning.Start.{Start}
use Rattle.nor_base.specs.declared.meaning.Strategy.{Strategy}
use Rattle.nor_base.specs.declared.step.Step.{Step}
use Rattle.nor_base.specs.Parameters.{Parameters}
use Rattle.nor_base.specs.Decoding.{Instruction}
use Rattle.nor_base.specs.Blocks.{Block}
use Rattle.nor_base.specs.Chip.{begins4}
use Rattle.nor_base.specs.Effect.{is_program, is_read, has_address}
use Rattle.nor_base.specs.Strategies.{strategy}
use Rattle.nor_base.specs.Programs.{Program}
use Rattle.nor_base.specs.Units.{WorkUnit}
use Rattle.nor_base.specs.Spelling.{Instr, seen, IsStepBy, AreStepsOf, mode_after}
use Rattle.nor_base.specs.Operations.{Op, erases, writes, reads, programming, reading, unit_reads, unit_erases, unit_ops}
use Rattle.nor_base.specs.Planned.{planned_units, planned_ops, planned}
use Rattle.nor_base.specs.Step.{verifies}
use Rattle.nor_base.specs.Events.{is_erase}
use Rattle.nor_plan_laws.specs.Runs.{NoneVerifies, ErasesCounted, ProgramsCounted}
use Rattle.nor_plan_laws.proofs.Runs.Lists.{all_flat, all_of, all_each, any_none, sum_flat, sum_same}
use Rattle.nor_plan_laws.proofs.Runs.Shown.{count_none}
use Rattle.nor_plan_laws.proofs.Runs.Chosen.{programming_programs, reading_reads}
use Rattle.nor_plan_laws.proofs.Runs.Counted.{doing, count_then, lowered_count, planned_count}
use Rattle.nor_plan_laws.proofs.Runs.Exact.{IsReadOp, reads_only}

-- whether an operation's instruction is of a kind
abbrev told : (What → Bool) → Parameters → Start → Strategy → Op → Bool
told test m start by op = test (seen (doing m start by op)).what

abbrev by_what : (What → Bool) → Instruction → Bool
by_what test j = test j.what

erase_has : (w : What) → has_address w ≡ false → is_erase w ≡ false
erase_has (what.Erase kind) none = cc
erase_has other none = refl

program_has : (w : What) → has_address w ≡ false → is_program w ≡ false
program_has what.Program none = cc
program_has what.QuadProgram none = cc
program_has other none = refl

read_has : (w : What) → has_address w ≡ false → is_read w ≡ false
read_has what.Read none = cc
read_has what.QuadRead none = cc
read_has other none = refl

program_alone : (w : What) → is_program w ≡ true → (is_erase w ≡ false) × (is_read w ≡ false)
program_alone what.Program is = (refl, refl)
program_alone what.QuadProgram is = (refl, refl)
program_alone other is = cc

read_alone : (w : What) → is_read w ≡ true → (is_erase w ≡ false) × (is_program w ≡ false)
read_alone what.Read is = (refl, refl)
read_alone what.QuadRead is = (refl, refl)
read_alone other is = cc

-- what a program's instruction is told to be, and a read's
program_told : (m : Parameters) (start : Start) (by : Strategy) (p : Program) → is_program (programming m start by p).what ≡ true
program_told m start by p = (programming_programs m start by p).program

read_told : (test : What → Bool) (m : Parameters) (start : Start) (by : Strategy) → ((w : What) → is_read w ≡ true → test w ≡ false) → (op : Op) → IsReadOp op
    → told test m start by op ≡ false
read_told test m start by apart (erases b) is = absurd is
read_told test m start by apart (writes p) is = absurd is
read_told test m start by apart (reads p) is = apart (reading m start by p).what (reading_reads m start by p).read

erases_told : (m : Parameters) (start : Start) (by : Strategy) (e : Option Block) → count_by (told is_erase m start by) (unit_erases e) ≡ cond (is_some e) 1 0
erases_told m start by None = refl
erases_told m start by (Some b) = sum_by-cons (λ op. cond (told is_erase m start by op) 1 0) (erases b) []

none_erased : (test : What → Bool) (m : Parameters) (start : Start) (by : Strategy) (e : Option Block) → ((kind : ℕ) → test (what.Erase kind) ≡ false)
    → count_by (told test m start by) (unit_erases e) ≡ 0
none_erased test m start by None apart = refl
none_erased test m start by (Some b) apart = count_none (told test m start by) (erases b ∷ []) (apart b.kind, tt)

writes_told : (m : Parameters) (start : Start) (by : Strategy) (ps : List Program) → count_by (told is_program m start by) (map writes ps) ≡ length ps
writes_told m start by [] = refl
writes_told m start by (p ∷ ps) =
    let one : 1 + length ps ≡ suc (length ps) = omega arith in
    sum_by-cons (λ op. cond (told is_program m start by op) 1 0) (writes p) (map writes ps)
    ∙ ap (λ b. cond b 1 0 + count_by (told is_program m start by) (map writes ps)) (program_told m start by p)
    ∙ ap (λ k. 1 + k) (writes_told m start by ps) ∙ one

-- of a unit's operations, part by part
unit_told : (test : What → Bool) (m : Parameters) (start : Start) (by : Strategy) (verify : Bool) (want : List ℕ) (u : WorkUnit) (front middle : ℕ)
    → ((w : What) → is_read w ≡ true → test w ≡ false) → count_by (told test m start by) (unit_erases u.erase) ≡ front
    → count_by (told test m start by) (map writes u.programs) ≡ middle → count_by (told test m start by) (unit_ops m verify want u) ≡ front + middle
unit_told test m start by verify want u front middle apart first second =
    let T = told test m start by in
    let last = if verify then unit_reads m want u u.erase else [] in
    let none : count_by T last ≡ 0 =
    count_none T last (all_each IsReadOp (λ op. T op ≡ false) (read_told test m start by apart) last (reads_only m want u verify)) in
    count_then T (unit_erases u.erase) (map writes u.programs ++ last) ∙ ap (λ k. k + count_by T (map writes u.programs ++ last)) first
    ∙ ap (λ k. front + k) (count_then T (map writes u.programs) last ∙ ap (λ k. count_by T (map writes u.programs) + k) none
    ∙ add-zero (count_by T (map writes u.programs)) ∙ second)

unit_erase_told : (m : Parameters) (start : Start) (by : Strategy) (verify : Bool) (want : List ℕ) (u : WorkUnit)
    → count_by (told is_erase m start by) (unit_ops m verify want u) ≡ cond (is_some u.erase) 1 0
unit_erase_told m start by verify want u =
    unit_told is_erase m start by verify want u (cond (is_some u.erase) 1 0) 0 (λ w is. (read_alone w is).0) (erases_told m start by u.erase)
    (count_none (told is_erase m start by) (map writes u.programs)
    (all_of (λ op. told is_erase m start by op ≡ false) writes (λ p. (program_alone (programming m start by p).what (program_told m start by p)).0) u.programs))
    ∙ add-zero (cond (is_some u.erase) 1 0)

unit_program_told : (m : Parameters) (start : Start) (by : Strategy) (verify : Bool) (want : List ℕ) (u : WorkUnit)
    → count_by (told is_program m start by) (unit_ops m verify want u) ≡ length u.programs
unit_program_told m start by verify want u =
    unit_told is_program m start by verify want u 0 (length u.programs) (λ w is. (read_alone w is).1) (none_erased is_program m start by u.erase (λ kind. refl))
    (writes_told m start by u.programs)
    ∙ zero-add (length u.programs)

pub erases_counted : ErasesCounted
erases_counted m start verify have want steps w are s is =
    let by = strategy m start in
    planned_count (by_what is_erase) m start verify have want steps (λ j none. erase_has j.what none) w are s is
    ∙ sum_flat (λ op. cond (told is_erase m start by op) 1 0) (unit_ops m verify want) (planned_units m start have want)
    ∙ sum_same (λ u. count_by (told is_erase m start by) (unit_ops m verify want u)) (λ u. cond (is_some u.erase) 1 0) (unit_erase_told m start by verify want)
    (planned_units m start have want)

pub programs_counted : ProgramsCounted
programs_counted m start verify have want steps w are s is =
    let by = strategy m start in
    planned_count (by_what is_program) m start verify have want steps (λ j none. program_has j.what none) w are s is
    ∙ sum_flat (λ op. cond (told is_program m start by op) 1 0) (unit_ops m verify want) (planned_units m start have want)
    ∙ sum_same (λ u. count_by (told is_program m start by) (unit_ops m verify want u)) (λ u. length u.programs) (unit_program_told m start by verify want)
    (planned_units m start have want)

-- a step verifies where its instruction reads
step_told : (m : Parameters) (mode4 : Bool) (i : Instr) (w : What) (x : Step) → IsStepBy m mode4 i w x → verifies x ≡ is_read w
step_told m mode4 i what.Status x by = ap verifies by
step_told m mode4 i what.Read x by = ap verifies by.read
step_told m mode4 i what.QuadRead x by = ap verifies by.read
step_told m mode4 i what.Enable x by = ap verifies by.sent
step_told m mode4 i what.Disable x by = ap verifies by.sent
step_told m mode4 i what.Enter x by = ap verifies by.sent
step_told m mode4 i what.Leave x by = ap verifies by.sent
step_told m mode4 i (what.Erase kind) x by = ap verifies by.sent
step_told m mode4 i what.Program x by = ap verifies by.sent
step_told m mode4 i what.QuadProgram x by = ap verifies by.sent
step_told m mode4 i what.Broken x by = ap verifies by.sent

steps_told : (m : Parameters) (mode4 : Bool) (these : List Instr) (xs : List Step) → AreStepsOf m mode4 these xs
    → count_by verifies xs ≡ count_by (λ (i : Instr). is_read (seen i).what) these
steps_told m mode4 [] [] are = refl
steps_told m mode4 [] (x ∷ xs) are = absurd are
steps_told m mode4 (i ∷ these) [] are = absurd are
steps_told m mode4 (i ∷ these) (x ∷ xs) are =
    sum_by-cons (λ y. cond (verifies y) 1 0) x xs ∙ ap (λ b. cond b 1 0 + count_by verifies xs) (step_told m mode4 i i.what x are.0)
    ∙ ap (λ k. cond (is_read i.what) 1 0 + k) (steps_told m (mode_after i.what mode4) these xs are.1)
    ∙ sym (sum_by-cons (λ (j : Instr). cond (is_read j.what) 1 0) i these)

unit_read_told : (m : Parameters) (start : Start) (by : Strategy) (want : List ℕ) (u : WorkUnit)
    → AllByRecursion (λ op. told is_read m start by op ≡ false) (unit_ops m false want u)
unit_read_told m start by want u = all_parts m start by u.erase u.programs
  where
    writes_none : (m : Parameters) (start : Start) (by : Strategy) (ps : List Program) → AllByRecursion (λ op. told is_read m start by op ≡ false) (map writes ps ++ [])
    writes_none m start by [] = tt
    writes_none m start by (p ∷ ps) = ((program_alone (programming m start by p).what (program_told m start by p)).1, writes_none m start by ps)

    all_parts : (m : Parameters) (start : Start) (by : Strategy) (e : Option Block) (ps : List Program)
        → AllByRecursion (λ op. told is_read m start by op ≡ false) (unit_erases e ++ (map writes ps ++ []))
    all_parts m start by None ps = writes_none m start by ps
    all_parts m start by (Some b) ps = (refl, writes_none m start by ps)

all_units : {A : Type 0} (P : A → Type 0) → ((x : A) → P x) → (xs : List A) → AllByRecursion P xs
all_units P each [] = tt
all_units P each (x ∷ xs) = (each x, all_units P each xs)

pub none_verifies : NoneVerifies
none_verifies m start have want steps are =
    let by = strategy m start in
    let us = planned_units m start have want in
    let none = all_flat (λ op. told is_read m start by op ≡ false) (unit_ops m false want) us
    (all_units (λ u. AllByRecursion (λ op. told is_read m start by op ≡ false) (unit_ops m false want u)) (unit_read_told m start by want) us) in
    any_none verifies steps
    (steps_told m (begins4 m start) (planned m start false have want) steps are
    ∙ lowered_count (by_what is_read) m start by (planned_ops m start false have want) (λ j none. read_has j.what none)
    ∙ count_none (told is_read m start by) (planned_ops m start false have want) none)
