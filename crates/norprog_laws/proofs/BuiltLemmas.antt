-- Of what a build wrote, a check says yes.
use Rattle.std.proofs.Common.{◌≡◌, ℕ, zero, suc, ◌+◌, ◌^◌, Bool, false, not, ◌&&◌, if◌then◌else◌, nat_lt, List, [], ◌∷◌, ◌++◌, length, map, take, Option, Some, None, Result, Ok, refl, sym, ◌∙◌, ap, subst, arith, eq-eqb}
use Rattle.std.specs.Prelude.{unwrap_or}
use Rattle.std.specs.List.{slice_index, find, range_with_len, enumerate_from}
use Rattle.std.proofs.Math.Seq.{take-append_seam}
use Rattle.std.proofs.lemmas.Grind.{same_number_lists}
use Rattle.nor_base.specs.declared.step.Step.{Step}
use Rattle.nor_base.specs.declared.wrong.Wrong.TheVariants as wrong
use Rattle.nor_base.specs.Chip.{Setting}
use Rattle.nor_base.specs.Device.{Ahead, Unknown, Finite, Endless, Gives}
use Rattle.nor_base.specs.Parameters.{Parameters}
use Rattle.nor_base.specs.Run.{DoesTask}
use Rattle.nor_base.specs.Target.{target, target_byte}
use Rattle.nor_check.specs.declared.verdict.Verdict.TheVariants.{Yes, No}
use Rattle.nor_check.specs.declared.verdict.Why.TheVariants as why
use Rattle.nor_check.specs.Outcome.{differs, first_difference, at_difference, ended, outcome_from, outcome}
use Rattle.nor_check.specs.Outcome.{trial}
use Rattle.nor_check.specs.Worst.{IsWorst}
use Rattle.nor_hex.specs.Image.{Pairs, byte_at}
use Rattle.nor_job.proofs.ChipLemmas.{one_chip}
use Rattle.nor_job.proofs.OneLemmas.{image_same, regions_same}
use Rattle.nor_job.specs.Status.{start_of}
use Rattle.nor_job.specs.Task.{Task}
use Rattle.nor_laws.specs.Laws.{OneList}
use Rattle.nor_layout.specs.Chosen.{is_chosen}
use Rattle.nor_layout.specs.Region.{Region}
use Rattle.nor_job.specs.Wanted.{wanted}
use Rattle.norprog_laws.specs.Checked.{Tells, BuiltIsRight, BuiltIsChecked}
use Rattle.nor_job.proofs.TargetLemmas.{map_same}

find_none : (p : ℕ → Bool) (b n : ℕ) → ((a : ℕ) → p a ≡ false) → find p (range_with_len b n) ≡ None
find_none p b zero none = refl
find_none p b (suc n) none = let here : p b ≡ false = none b in rw here (find_none p (b + 1) n none)

-- an array is itself
no_difference : (array : List ℕ) → first_difference array array ≡ None
unfolding first_difference
no_difference array =
    find_none (differs array array) 0 (length array) (λ a. ap not (eq-eqb (slice_index array a) (slice_index array a) refl))

-- steps that do the task come out so
does_yes : (s : Setting) (content goal : List ℕ) (steps : List Step) → DoesTask s content goal steps → outcome s content goal steps ≡ Yes
unfolding outcome_from
does_yes s content goal steps task =
    ap (ended s goal (length steps)) task.good.runs
    ∙ ap (λ b. if b then at_difference (length steps) (first_difference task.final.array goal) else No (length steps) (why.Wrong wrong.NotIdleAtEnd)) task.good.settled
    ∙ ap (λ array. at_difference (length steps) (first_difference array goal)) task.array
    ∙ ap (at_difference (length steps)) (no_difference goal)

pub built_is_right : OneList → BuiltIsRight
built_is_right one t len before after x y wrote steps v script worst =
    let goal = wanted t wrote.image wrote.regions wrote.content in
    let same : wrote.steps ≡ steps = one wrote.text wrote.steps steps wrote.script script in
    let task : DoesTask worst.chip wrote.content goal steps =
    subst (λ (xs : List Step). DoesTask worst.chip wrote.content goal xs) same (wrote.task worst.chip worst.is) in
    sym worst.so ∙ does_yes worst.chip wrote.content goal steps task

byte_same : (f g : ℕ → Option ℕ) (base : ℕ) (c : ℕ → Bool) → ((a : ℕ) → f a ≡ g a) → (a old : ℕ) → target_byte f base c a old ≡ target_byte g base c a old
byte_same f g base c same a old = ap (λ o. if c a && nat_lt (base + a) (2 ^ 32) then unwrap_or o old else old) (same (base + a))

wanted_same : (t : Task) (a b : Pairs) (p q : List Region) (content : List ℕ) → ((address : ℕ) → byte_at a address ≡ byte_at b address) → p ≡ q
    → wanted t a p content ≡ wanted t b q content
unfolding target
wanted_same t a b p q content bytes regions =
    map_same _ _ (enumerate_from 0 content) (λ pair. byte_same (byte_at a) (byte_at b) t.base (is_chosen p t.regions) bytes pair.0 pair.1)
    ∙ ap (λ (these : List Region). target (byte_at b) t.base (is_chosen these t.regions) content) regions

-- so many bytes that a reader gives which tells them are one list
pub given_same : (before after rest : Ahead) (xs ys : List ℕ) → Tells before → Gives before xs after → Gives before ys rest → length xs ≡ length ys → xs ≡ ys
given_same Unknown after rest xs ys tells p q sizes = absurd tells
given_same (Finite bytes) (Finite a) (Finite b) xs ys tells p q sizes =
    sym (take-append_seam xs a) ∙ ap (take (length xs)) (sym p ∙ q) ∙ ap (λ n. take n (ys ++ b)) sizes ∙ take-append_seam ys b
given_same (Finite bytes) (Finite a) Unknown xs ys tells p q sizes = absurd q
given_same (Finite bytes) (Finite a) (Endless g) xs ys tells p q sizes = absurd q
given_same (Finite bytes) Unknown rest xs ys tells p q sizes = absurd p
given_same (Finite bytes) (Endless f) rest xs ys tells p q sizes = absurd p
given_same (Endless byte_at) (Endless f) (Endless g) xs ys tells p q sizes =
    same_number_lists xs ys sizes (λ k inside. p.0 k inside ∙ sym (q.0 k (omega (arith, inside, sizes))))
given_same (Endless byte_at) (Endless f) Unknown xs ys tells p q sizes = absurd q
given_same (Endless byte_at) (Endless f) (Finite b) xs ys tells p q sizes = absurd q
given_same (Endless byte_at) Unknown rest xs ys tells p q sizes = absurd p
given_same (Endless byte_at) (Finite a) rest xs ys tells p q sizes = absurd p

pub built_is_checked : OneList → BuiltIsChecked
built_is_checked one t len before after rest x y found wrote tells checked =
    let start = start_of t in
    let named = checked.accepted.named in
    let own = wrote.accepted.named in
    let m : checked.m ≡ wrote.m = one_chip checked.accepted.means wrote.accepted.means in
    let content : checked.content ≡ wrote.content =
    given_same before rest after checked.content wrote.content tells checked.given wrote.given (checked.whole ∙ sym wrote.whole) in
    let goal : wanted t checked.image checked.regions wrote.content ≡ wanted t wrote.image wrote.regions wrote.content =
    wanted_same t checked.image wrote.image checked.regions wrote.regions wrote.content
    (image_same t.image t.hex checked.image wrote.image named.imaged.spelled own.imaged.spelled)
    (regions_same t.layout checked.regions wrote.regions named.layout own.layout) in
    built_is_right one t len before after x y wrote checked.steps found.verdict checked.script
    (subst (λ (wish : List ℕ). IsWorst (trial wrote.m start wrote.content wish checked.steps) found.verdict) goal
    (subst (λ (holds : List ℕ). IsWorst (trial wrote.m start holds (wanted t checked.image checked.regions holds) checked.steps) found.verdict) content
    (subst (λ (n : Parameters). IsWorst (trial n start checked.content (wanted t checked.image checked.regions checked.content) checked.steps) found.verdict) m checked.worst)))
