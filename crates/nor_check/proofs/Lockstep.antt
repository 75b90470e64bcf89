-- The chips of each page in step: the first step at which those of some page go wrong is the verdict.
use Rattle.std.proofs.Common.{◌≡◌, ℕ, ◌+◌, ◌==◌, nat_lt, Bool, true, false, ◌&&◌, ◌||◌, if◌then◌else◌, List, [], ◌∷◌, Result, Ok, Err, refl, sym, ◌∙◌, ap, arith, inl, inr, eq-eqb}
use Rattle.std.proofs.lemmas.Bool.{cases_eq, cases_lt, lt-ltb, le-ltb, ne_eqb, or_left}
use Rattle.nor_base.specs.declared.step.Step.{Step}
use Rattle.nor_base.specs.declared.wrong.Wrong.{Wrong}
use Rattle.nor_check.specs.declared.verdict.Verdict.{Verdict}
use Rattle.nor_check.specs.declared.verdict.Verdict.TheVariants.{Yes, No}
use Rattle.nor_check.specs.declared.verdict.Why.TheVariants as why
use Rattle.nor_check.specs.Order.{rank, rank_of, is_before, earlier}
use Rattle.nor_check.specs.Chips.{Kind, Chips, Together}
use Rattle.nor_check.specs.Judged.{later, all_step, judge_on, judged}
use Rattle.nor_check.specs.Pages.{each_step, first_cause, joined, judged_each}
use Rattle.nor_check.specs.Fed.{after_steps}
use Rattle.nor_check.proofs.Before.{told}
use Rattle.nor_check.proofs.Judges.{zero_first}

-- counted from some steps earlier each is as early
less_by : (n k j : ℕ) → nat_lt (k + n) (j + n) ≡ nat_lt k j
less_by n k j = elim (cases_lt k j) [
  | inl less ↦ lt-ltb (k + n) (j + n) (omega arith) ∙ sym (lt-ltb k j less)
  | inr upto ↦ le-ltb (k + n) (j + n) (omega arith) ∙ sym (le-ltb k j upto)
]

same_by : (n k j : ℕ) → (k + n == j + n) ≡ (k == j)
same_by n k j = elim (cases_eq k j) [
  | inl same ↦ eq-eqb (k + n) (j + n) (ap (λ i. i + n) same) ∙ sym (eq-eqb k j same)
  | inr apart ↦ ne_eqb (k + n) (j + n) (λ same. apart (omega arith)) ∙ sym (ne_eqb k j apart)
]

before_by : (n : ℕ) (v u : Verdict) → is_before (after_steps n v) (after_steps n u) ≡ is_before v u
before_by n Yes u = refl
before_by n (No k a) Yes = refl
before_by n (No k a) (No j b) =
    ap (λ x. x || ((k + n == j + n) && nat_lt (rank a) (rank b))) (less_by n k j) ∙ ap (λ x. nat_lt k j || (x && nat_lt (rank a) (rank b))) (same_by n k j)

pub after_earlier : (n : ℕ) (v u : Verdict) → after_steps n (earlier v u) ≡ earlier (after_steps n v) (after_steps n u)
after_earlier n v u = by (is_before u v) ∙ sym (ap (λ b. if b then after_steps n u else after_steps n v) (before_by n u v))
  where
    by : (b : Bool) → after_steps n (if b then u else v) ≡ (if b then after_steps n u else after_steps n v)
    by true = refl
    by false = refl

later_is_after : (v : Verdict) → later v ≡ after_steps 1 v
later_is_after Yes = refl
later_is_after (No k cause) = refl

earlier_later : (v u : Verdict) → earlier (later v) (later u) ≡ later (earlier v u)
earlier_later v u =
    ap (λ t. earlier t (later u)) (later_is_after v) ∙ ap (earlier (after_steps 1 v)) (later_is_after u) ∙ sym (after_earlier 1 v u) ∙ sym (later_is_after (earlier v u))

-- a step that goes wrong is before all later ones
zero_before : (a : Wrong) (v : Verdict) → earlier (No 0 (why.Wrong a)) (later v) ≡ No 0 (why.Wrong a)
zero_before a v = ap (λ b. if b then later v else No 0 (why.Wrong a)) (told (No 0 (why.Wrong a)) (later v) (zero_first a v))

is_first : (a : Wrong) (v : Verdict) → is_before (No 0 (why.Wrong a)) (later v) ≡ true
is_first a Yes = refl
is_first a (No n b) = or_left (nat_lt 0 (n + 1)) _ (lt-ltb 0 (n + 1) (omega arith))

before_zero : (a : Wrong) (v : Verdict) → earlier (later v) (No 0 (why.Wrong a)) ≡ No 0 (why.Wrong a)
before_zero a v = ap (λ b. if b then No 0 (why.Wrong a) else later v) (is_first a v)

both_zero : (a b : Wrong) → earlier (No 0 (why.Wrong a)) (No 0 (why.Wrong b)) ≡ No 0 (why.Wrong (first_cause a b))
both_zero a b = by (nat_lt (rank_of b) (rank_of a))
  where
    by : (t : Bool) → (if t then No 0 (why.Wrong b) else No 0 (why.Wrong a)) ≡ No 0 (why.Wrong (if t then b else a))
    by true = refl
    by false = refl

abbrev pub judge_each : Result (List Together) Wrong → (List Together → Verdict) → Verdict
judge_each (Err cause) rest = No 0 (why.Wrong cause)
judge_each (Ok after) rest = later (rest after)

join_judged : (target : List ℕ) (xs : List Step) (k : Kind) (r : Result Chips Wrong) (s : Result (List Together) Wrong)
    → earlier (judge_on r (λ after. judged k target after xs)) (judge_each s (λ after. judged_each target after xs))
    ≡ judge_each (joined k r s) (λ after. judged_each target after xs)
join_judged target xs k (Ok w) (Ok ts) = earlier_later (judged k target w xs) (judged_each target ts xs)
join_judged target xs k (Err a) (Ok ts) = zero_before a (judged_each target ts xs)
join_judged target xs k (Ok w) (Err b) = before_zero b (judged k target w xs)
join_judged target xs k (Err a) (Err b) = both_zero a b

-- the verdict goes step by step
pub in_step : (target : List ℕ) (ts : List Together) (x : Step) (xs : List Step)
    → judged_each target ts (x ∷ xs) ≡ judge_each (each_step ts x) (λ after. judged_each target after xs)
unfolding judged
in_step target [] x xs = refl
in_step target (t ∷ ts) x xs =
    ap (earlier (judge_on (all_step t.kind t.chips x) (λ after. judged t.kind target after xs))) (in_step target ts x xs)
    ∙ join_judged target xs t.kind (all_step t.kind t.chips x) (each_step ts x)
