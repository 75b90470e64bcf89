-- The bounded play of the chip that shows a no is its run.
use Rattle.std.proofs.Common.{◌≡◌, ℕ, zero, suc, ◌+◌, ◌<◌, Bool, true, false, not, if◌then◌else◌, cond, List, length, replicate, Option, Some, None, Result, Ok, Err, refl, sym, ◌∙◌, ap, subst, arith, inl, inr, eq-eqb}
use Rattle.std.specs.List.{slice_index, find, range_with_len}
use Rattle.std.proofs.lemmas.Bool.{both_ways, cases_lt}
use Rattle.std.proofs.lemmas.List.{get_or-replicate, get_or_past, length-replicate}
use Rattle.nor_base.specs.declared.wrong.Wrong.TheVariants as wrong
use Rattle.nor_base.specs.Chip.{Setting, Chip, is_settled, ready}
use Rattle.nor_base.specs.Run.{Stop, run}
use Rattle.nor_laws.specs.Laws.{BoundedIsRun}
use Rattle.nor_check.specs.declared.verdict.Verdict.TheVariants.{No}
use Rattle.nor_check.specs.declared.verdict.Why.{Why}
use Rattle.nor_check.specs.declared.verdict.Why.TheVariants as why
use Rattle.nor_check.specs.Outcome.{differs, first_difference, at_difference, ended, outcome_from}
use Rattle.nor_check.specs.Witness.{even_chip}
use Rattle.nor_play.specs.Play.{at_end}
use Rattle.norprog_laws.specs.Replay.{NoIsReplayed, ShowsSo}

-- what is found passes, and is one of those that were looked at
abbrev Passes : (ℕ → Bool) → ℕ → ℕ → ℕ → Type 0
Passes p b n a = (a < b + n) × (p a ≡ true)

found_by : (p : ℕ → Bool) (b n a : ℕ) (t : Bool) → p b ≡ t → (find p (range_with_len (b + 1) n) ≡ Some a → Passes p (b + 1) n a)
    → cond t (Some b) (find p (range_with_len (b + 1) n)) ≡ Some a → Passes p b (suc n) a
found_by p b n a true is more h = let same : b ≡ a = cc in (omega arith, ap p (sym same) ∙ is)
found_by p b n a false is more h = let rest = more h in let low = rest.0 in (omega arith, rest.1)

found : (p : ℕ → Bool) (b n a : ℕ) → find p (range_with_len b n) ≡ Some a → Passes p b n a
found p b zero a h = cc
found p b (suc n) a h = found_by p b n a (p b) refl (λ is. found p (b + 1) n a is) h

apart : (array target : List ℕ) (a : ℕ) → first_difference array target ≡ Some a → (a < length target) × (slice_index array a ≡ slice_index target a → ⊥)
unfolding first_difference
apart array target a h =
    let is = found (differs array target) 0 (length target) a h in (
      (let low = is.0 in omega arith),
      λ same. both_ways (differs array target a) (ap not (eq-eqb (slice_index array a) (slice_index target a) same)) is.1,
    )

-- the end of a run
ends_so : (s : Setting) (want : List ℕ) (count : ℕ) (c : Chip) (b : Bool) (o : Option ℕ) (step : ℕ) (cause : Why) → is_settled s c ≡ b → first_difference c.array want ≡ o
    → (if b then at_difference count o else No count (why.Wrong wrong.NotIdleAtEnd)) ≡ No step cause
    → ShowsSo cause step count want (if b then Ok c else Err (record { at = count; why = wrong.NotIdleAtEnd; chip = c }))
ends_so s want count c true None step cause settled is h = cc
ends_so s want count c true (Some a) step cause settled is h =
    let number : count ≡ step = cc in
    let same : why.Differs a ≡ cause = cc in
    subst (λ w. ShowsSo w step count want (Ok c)) same (number, (apart c.array want a is).0, (apart c.array want a is).1)
ends_so s want count c false o step cause settled is h =
    let number : count ≡ step = cc in
    let same : why.Wrong wrong.NotIdleAtEnd ≡ cause = cc in
    subst (λ w. ShowsSo w step count want (Err (record { at = count; why = wrong.NotIdleAtEnd; chip = c }))) same (number, refl)

run_so : (s : Setting) (want : List ℕ) (count : ℕ) (r : Result Chip Stop) (step : ℕ) (cause : Why) → ended s want count r ≡ No step cause
    → ShowsSo cause step count want (at_end s count r)
run_so s want count (Ok c) step cause h = ends_so s want count c (is_settled s c) (first_difference c.array want) step cause refl refl h
run_so s want count (Err stop) step cause h =
    let number : stop.at ≡ step = cc in
    let same : why.Wrong stop.why ≡ cause = cc in
    subst (λ w. ShowsSo w step count want (Err stop)) same (number, refl)

below : (k n limit i : ℕ) → n < limit → slice_index (replicate k n) i < limit
below k n limit i low = elim (cases_lt i k) [
  | inl inside ↦ let is : slice_index (replicate k n) i ≡ n = get_or-replicate k i n 0 inside in omega (arith, is)
  | inr past ↦ let is : slice_index (replicate k n) i ≡ 0 = get_or_past (replicate k n) i 0 (omega (arith, length-replicate k n, past)) in omega (arith, is)
]

pub no_is_replayed : BoundedIsRun → NoIsReplayed
unfolding outcome_from
no_is_replayed bounded t step cause e limit many w low enough =
    let s = even_chip t.m t.start many e in
    let is = bounded s limit (ready s t.have) t.steps (record { left = omega arith; to_come = λ i. below many e.each_busy limit i low }) in
    subst (λ r. ShowsSo cause step (length t.steps) t.want (at_end s (length t.steps) r)) (sym is)
    (run_so s t.want (length t.steps) (run s (ready s t.have) t.steps) step cause (w.shows many enough))
