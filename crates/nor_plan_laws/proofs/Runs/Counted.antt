-- In a run of planned work as many transactions pass a test as operations do.
use Rattle.std.proofs.Common.{◌≡◌, ℕ, ◌+◌, Bool, false, cond, List, [], ◌∷◌, ◌++◌, refl, sym, ◌∙◌, ap, subst}
use Rattle.std.specs.Prelude.{flat_map}
use Rattle.std.specs.List.{AllByRecursion, count_by}
use Rattle.std.proofs.Math.Nat.{zero-add, add-zero}
use Rattle.std.proofs.lemmas.List.Sums.{sum_by-cons, sum_by-append}
use Rattle.nor_base.specs.declared.instruction.What.{What}
use Rattle.nor_base.specs.declared.instruction.What.TheVariants as what
use Rattle.nor_base.specs.declared.meaning.Start.{Start}
use Rattle.nor_base.specs.declared.meaning.Strategy.{Strategy}
use Rattle.nor_base.specs.declared.meaning.Strategy.TheVariants.{S1, S2, S3, S4, S5}
use Rattle.nor_base.specs.declared.meaning.Switch.{Switch}
use Rattle.nor_base.specs.declared.meaning.Switch.TheVariants.{Absent, Plain, Latched}
use Rattle.nor_base.specs.declared.step.Step.{Step}
use Rattle.nor_base.specs.Parameters.{Parameters}
use Rattle.nor_base.specs.Decoding.{Instruction}
use Rattle.nor_base.specs.Chip.{Setting, IsChipOf, ready}
use Rattle.nor_base.specs.Effect.{has_address}
use Rattle.nor_base.specs.Strategies.{strategy}
use Rattle.nor_base.specs.Spelling.{Instr, seen}
use Rattle.nor_base.specs.Operations.{Op, erases, writes, reads, enable, disable, poll, bare, erasing, programming, reading, instructions, switching_by, entering, leaving, lowered}
use Rattle.nor_base.specs.Planned.{planned_ops, planned, ArePlanned, IsWorkable}
use Rattle.nor_base.specs.Events.{events}
use Rattle.nor_plan_laws.proofs.Task.Whole.{planned_works}
use Rattle.nor_plan_laws.proofs.Runs.Shown.{AreShown, run_shown, IsAddressed, passes, count_none, shown_count}

-- the instruction of an operation that has its address
abbrev pub doing : Parameters → Start → Strategy → Op → Instr
doing m start by (erases b) = erasing m by b
doing m start by (writes p) = programming m start by p
doing m start by (reads p) = reading m start by p

pub count_skip : {A : Type 0} (test : A → Bool) (x : A) (xs : List A) → test x ≡ false → count_by test (x ∷ xs) ≡ count_by test xs
count_skip test x xs none = sum_by-cons (λ y. cond (test y) 1 0) x xs ∙ ap (λ b. cond b 1 0 + count_by test xs) none ∙ zero-add (count_by test xs)

count_first : {A : Type 0} (test : A → Bool) (x : A) (xs : List A) → count_by test xs ≡ 0 → count_by test (x ∷ xs) ≡ cond (test x) 1 0
count_first test x xs none = sum_by-cons (λ y. cond (test y) 1 0) x xs ∙ ap (λ k. cond (test x) 1 0 + k) none ∙ add-zero (cond (test x) 1 0)

pub count_then : {A : Type 0} (test : A → Bool) (xs ys : List A) → count_by test (xs ++ ys) ≡ count_by test xs + count_by test ys
count_then test xs ys = sum_by-append (λ y. cond (test y) 1 0) xs ys

abbrev shows : (Instruction → Bool) → Instr → Bool
shows test i = test (seen i)

-- of an operation's instructions its own alone has an address
waited_count : (test : Instruction → Bool) (i : Instr) → IsAddressed test → count_by (shows test) (enable ∷ i ∷ poll ∷ []) ≡ cond (test (seen i)) 1 0
waited_count test i addressed =
    count_skip (shows test) enable (i ∷ poll ∷ []) (addressed (seen enable) refl)
    ∙ count_first (shows test) i (poll ∷ []) (count_none (shows test) (poll ∷ []) (addressed (seen poll) refl, tt))

op_count : (test : Instruction → Bool) (m : Parameters) (start : Start) (by : Strategy) (op : Op) → IsAddressed test
    → count_by (shows test) (instructions m start by op) ≡ cond (test (seen (doing m start by op))) 1 0
op_count test m start by (erases b) addressed = waited_count test (erasing m by b) addressed
op_count test m start by (writes p) addressed = waited_count test (programming m start by p) addressed
op_count test m start by (reads p) addressed = count_first (shows test) (reading m start by p) [] refl

ops_count : (test : Instruction → Bool) (m : Parameters) (start : Start) (by : Strategy) (ops : List Op) → IsAddressed test
    → count_by (shows test) (flat_map (instructions m start by) ops) ≡ count_by (λ op. test (seen (doing m start by op))) ops
ops_count test m start by [] addressed = refl
ops_count test m start by (op ∷ ops) addressed =
    count_then (shows test) (instructions m start by op) (flat_map (instructions m start by) ops)
    ∙ ap (λ k. k + count_by (shows test) (flat_map (instructions m start by) ops)) (op_count test m start by op addressed)
    ∙ ap (λ k. cond (test (seen (doing m start by op))) 1 0 + k) (ops_count test m start by ops addressed)
    ∙ sym (sum_by-cons (λ (o : Op). cond (test (seen (doing m start by o))) 1 0) op ops)

-- nor has a change of the mode an address
switch_bare : (test : Instruction → Bool) (by : Switch) (w : What) (op : ℕ) → IsAddressed test → has_address w ≡ false
    → AllByRecursion (λ i. shows test i ≡ false) (switching_by by w op)
switch_bare test Absent w op addressed none = tt
switch_bare test Plain w op addressed none = (addressed (seen (bare w op)) none, tt)
switch_bare test Latched w op addressed none =
    (addressed (seen enable) refl, (addressed (seen (bare w op)) none, (addressed (seen disable) refl, tt)))

enters_bare : (test : Instruction → Bool) (m : Parameters) (by : Strategy) → IsAddressed test → AllByRecursion (λ i. shows test i ≡ false) (entering m by)
enters_bare test m S1 addressed = tt
enters_bare test m S2 addressed = tt
enters_bare test m S3 addressed = tt
enters_bare test m S4 addressed = switch_bare test m.enter what.Enter 0xB7 addressed refl
enters_bare test m S5 addressed = tt

leaves_bare : (test : Instruction → Bool) (m : Parameters) (by : Strategy) → IsAddressed test → AllByRecursion (λ i. shows test i ≡ false) (leaving m by)
leaves_bare test m S1 addressed = tt
leaves_bare test m S2 addressed = tt
leaves_bare test m S3 addressed = tt
leaves_bare test m S4 addressed = switch_bare test m.leave what.Leave 0xE9 addressed refl
leaves_bare test m S5 addressed = tt

pub lowered_count : (test : Instruction → Bool) (m : Parameters) (start : Start) (by : Strategy) (ops : List Op) → IsAddressed test
    → count_by (shows test) (lowered m start by ops) ≡ count_by (λ op. test (seen (doing m start by op))) ops
lowered_count test m start by [] addressed = refl
lowered_count test m start by (op ∷ ops) addressed =
    let all = flat_map (instructions m start by) (op ∷ ops) in
    count_then (shows test) (entering m by) (all ++ leaving m by)
    ∙ ap (λ k. k + count_by (shows test) (all ++ leaving m by)) (count_none (shows test) (entering m by) (enters_bare test m by addressed))
    ∙ zero-add (count_by (shows test) (all ++ leaving m by)) ∙ count_then (shows test) all (leaving m by)
    ∙ ap (λ k. count_by (shows test) all + k) (count_none (shows test) (leaving m by) (leaves_bare test m by addressed))
    ∙ add-zero (count_by (shows test) all) ∙ ops_count test m start by (op ∷ ops) addressed

-- a run of planned work shows the planned instructions
shown_on : (m : Parameters) (start : Start) (verify : Bool) (have want : List ℕ) (steps : List Step) (s : Setting) → IsWorkable m start have want
    → ArePlanned m start verify have want steps → IsChipOf m start s → ArePlanned s.meaning s.start verify have want steps
    → AreShown 0 (planned s.meaning s.start verify have want) (events s (ready s have) steps)
shown_on m start verify have want steps s w are is are' =
    let task = (planned_works m start verify have want steps w are s is).task in
    run_shown s 0 (ready s have) task.final (planned s.meaning s.start verify have want) steps are' task.good.runs

pub planned_shown : (m : Parameters) (start : Start) (verify : Bool) (have want : List ℕ) (steps : List Step) → IsWorkable m start have want
    → ArePlanned m start verify have want steps → (s : Setting) → IsChipOf m start s → AreShown 0 (planned m start verify have want) (events s (ready s have) steps)
planned_shown m start verify have want steps w are s is =
    subst (λ (b : Start). AreShown 0 (planned m b verify have want) (events s (ready s have) steps)) is.its_start
    (subst (λ (a : Parameters). AreShown 0 (planned a s.start verify have want) (events s (ready s have) steps)) is.its_meaning
    (shown_on m start verify have want steps s w are is
    (subst (λ (b : Start). ArePlanned s.meaning b verify have want steps) (sym is.its_start)
    (subst (λ (a : Parameters). ArePlanned a start verify have want steps) (sym is.its_meaning) are))))

pub planned_count : (test : Instruction → Bool) (m : Parameters) (start : Start) (verify : Bool) (have want : List ℕ) (steps : List Step) → IsAddressed test
    → IsWorkable m start have want → ArePlanned m start verify have want steps → (s : Setting) → IsChipOf m start s
    → count_by (passes test) (events s (ready s have) steps)
    ≡ count_by (λ op. test (seen (doing m start (strategy m start) op))) (planned_ops m start verify have want)
planned_count test m start verify have want steps addressed w are s is =
    shown_count test addressed 0 (planned m start verify have want) (events s (ready s have) steps) (planned_shown m start verify have want steps w are s is)
    ∙ lowered_count test m start (strategy m start) (planned_ops m start verify have want) addressed
