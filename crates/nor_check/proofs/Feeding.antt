-- A checker before any step, one step fed, and its verdict.
use Rattle.std.proofs.Common.{◌≡◌, ℕ, ◌+◌, Bool, true, false, if◌then◌else◌, List, [], ◌∷◌, Option, Some, None, Result, Ok, Err, refl, sym, ◌∙◌, ap, subst, arith}
use Rattle.std.specs.Option.{is_some}
use Rattle.nor_base.specs.declared.step.Step.{Step}
use Rattle.nor_base.specs.declared.wrong.Wrong.{Wrong}
use Rattle.nor_base.specs.declared.wrong.Wrong.TheVariants as wrong
use Rattle.nor_base.specs.Chip.{is_settled}
use Rattle.nor_check.specs.declared.verdict.Verdict.{Verdict}
use Rattle.nor_check.specs.declared.verdict.Verdict.TheVariants.{Yes, No}
use Rattle.nor_check.specs.declared.verdict.Why.TheVariants as why
use Rattle.nor_check.specs.Order.{earlier}
use Rattle.nor_check.specs.Outcome.{first_difference, at_difference, at_end}
use Rattle.nor_check.specs.Chips.{Kind, Chips, Together, one_like, last_settled}
use Rattle.nor_check.specs.Judged.{later, all_step, judged}
use Rattle.nor_check.specs.Pages.{HaveSize, StepsEach, each_step, joined, judged_each, worst_of}
use Rattle.nor_check.specs.Fed.{Fed, after_steps, to_come, verdict_at}
use Rattle.nor_check.proofs.Lockstep.{after_earlier, in_step, judge_each}

-- before any step
after_none : (v : Verdict) → v ≡ after_steps 0 v
after_none Yes = refl
after_none (No k cause) = let same : k ≡ k + 0 = omega arith in ap (λ m. No m cause) same

pub before_any : (size : ℕ) (target : List ℕ) (ts : List Together) (page : ℕ) (steps : List Step)
    → judged_each target ts steps ≡ to_come (record { size = size; number = 0; chips = ts; stopped = None; page = page; reads = 0 }) target steps
unfolding to_come
before_any size target ts page steps = after_none (judged_each target ts steps)

-- one step more
after_later : (n : ℕ) (v : Verdict) → after_steps n (later v) ≡ after_steps (n + 1) v
after_later n Yes = refl
after_later n (No k cause) = let same : k + 1 + n ≡ k + (n + 1) = omega arith in ap (λ m. No m cause) same

module _ (size page reads then_page then_reads : ℕ) where
  goes_on : (target : List ℕ) (number : ℕ) (ts after : List Together) (o : Option Verdict) (x : Step) (more : List Step) → false ≡ is_some o → each_step ts x ≡ Ok after
      → to_come (record { size = size; number = number + 1; chips = after; stopped = o; page = then_page; reads = then_reads }) target more
      ≡ to_come (record { size = size; number = number; chips = ts; stopped = o; page = page; reads = reads }) target (x ∷ more)
  unfolding to_come
  goes_on target number ts after None x more none h =
      sym (ap (after_steps number) (in_step target ts x more ∙ ap (λ r. judge_each r (λ next. judged_each target next more)) h)
      ∙ after_later number (judged_each target after more))
  goes_on target number ts after (Some v) x more none h = cc

  stops : (target : List ℕ) (number later_on : ℕ) (ts after : List Together) (o : Option Verdict) (x : Step) (more : List Step) (cause : Wrong) → false ≡ is_some o
      → each_step ts x ≡ Err cause
      → to_come (record { size = size; number = later_on; chips = after; stopped = Some (No number (why.Wrong cause)); page = then_page; reads = then_reads }) target more
      ≡ to_come (record { size = size; number = number; chips = ts; stopped = o; page = page; reads = reads }) target (x ∷ more)
  unfolding to_come
  stops target number later_on ts after None x more cause none h =
      let zero_on : 0 + number ≡ number = omega arith in
      sym (ap (after_steps number) (in_step target ts x more ∙ ap (λ r. judge_each r (λ next. judged_each target next more)) h)
      ∙ ap (λ n. No n (why.Wrong cause)) zero_on)
  stops target number later_on ts after (Some v) x more cause none h = cc

  pub stays : (target : List ℕ) (number later_on : ℕ) (ts : List Together) (o : Option Verdict) (x : Step) (more : List Step) → true ≡ is_some o
      → to_come (record { size = size; number = later_on; chips = ts; stopped = o; page = then_page; reads = then_reads }) target more
      ≡ to_come (record { size = size; number = number; chips = ts; stopped = o; page = page; reads = reads }) target (x ∷ more)
  unfolding to_come
  stays target number later_on ts None x more some = cc
  stays target number later_on ts (Some v) x more some = refl

  pub feeds : (target : List ℕ) (number : ℕ) (ts after : List Together) (o : Option Verdict) (x : Step) (more : List Step) (r : Result (Unit {0}) Wrong) → false ≡ is_some o
      → StepsEach ts after r x
      → to_come (record { size = size; number = number + 1; chips = after; stopped = verdict_at number r; page = then_page; reads = then_reads }) target more
      ≡ to_come (record { size = size; number = number; chips = ts; stopped = o; page = page; reads = reads }) target (x ∷ more)
  feeds target number ts after None x more (Ok u) none h = goes_on target number ts after None x more none h
  feeds target number ts after None x more (Err cause) none h = stops target number (number + 1) ts after None x more cause none h
  feeds target number ts after (Some v) x more r none h = cc

-- the sizes stay
joined_size : (size : ℕ) (k : Kind) (r : Result Chips Wrong) (s : Result (List Together) Wrong) (after : List Together) → size ≡ k.meaning.size
    → ((ts : List Together) → s ≡ Ok ts → HaveSize size ts) → joined k r s ≡ Ok after → HaveSize size after
joined_size size k (Ok w) (Ok ts) after here rest h =
    let same : (record { kind = k; chips = w }) ∷ ts ≡ after = cc in subst (HaveSize size) same (here, rest ts refl)
joined_size size k (Err a) (Ok ts) after here rest h = cc
joined_size size k (Ok w) (Err b) after here rest h = cc
joined_size size k (Err a) (Err b) after here rest h = cc

keeps_size : (size : ℕ) (ts after : List Together) (x : Step) → HaveSize size ts → each_step ts x ≡ Ok after → HaveSize size after
keeps_size size [] after x have h = let same : [] ≡ after = cc in subst (HaveSize size) same tt
keeps_size size (t ∷ ts) after x have h =
    joined_size size t.kind (all_step t.kind t.chips x) (each_step ts x) after have.0 (λ us is. keeps_size size ts us x have.1 is) h

pub feeds_size : (size number : ℕ) (ts after : List Together) (x : Step) (r : Result (Unit {0}) Wrong) → HaveSize size ts → StepsEach ts after r x
    → verdict_at number r ≡ None → HaveSize size after
feeds_size size number ts after x (Ok u) have h none = keeps_size size ts after x have h
feeds_size size number ts after x (Err cause) have h none = cc

pub none_is : (o : Option Verdict) → false ≡ is_some o → o ≡ None
none_is None h = refl
none_is (Some v) h = cc

-- the end
end_at : (n : ℕ) (b : Bool) (o : Option ℕ)
    → after_steps n (if b then at_difference 0 o else No 0 (why.Wrong wrong.NotIdleAtEnd)) ≡ (if b then at_difference n o else No n (why.Wrong wrong.NotIdleAtEnd))
end_at n true None = refl
end_at n true (Some a) = let number : 0 + n ≡ n = omega arith in ap (λ i. No i (why.Differs a)) number
end_at n false o = let number : 0 + n ≡ n = omega arith in ap (λ i. No i (why.Wrong wrong.NotIdleAtEnd)) number

ends_each : (target : List ℕ) (n : ℕ) (ts : List Together)
    → after_steps n (judged_each target ts []) ≡ worst_of (λ t. at_end (one_like t.kind [] true) target n (last_settled t.chips)) ts
unfolding judged
ends_each target n [] = refl
ends_each target n (t ∷ ts) =
    after_earlier n (judged t.kind target t.chips []) (judged_each target ts [])
    ∙ ap (λ v. earlier v (after_steps n (judged_each target ts [])))
    (end_at n (is_settled (one_like t.kind [] true) (last_settled t.chips)) (first_difference t.chips.array target))
    ∙ ap (earlier (at_end (one_like t.kind [] true) target n (last_settled t.chips))) (ends_each target n ts)

pub ends_now : (target : List ℕ) (size n page reads : ℕ) (ts : List Together) (o : Option Verdict) → o ≡ None
    → worst_of (λ t. at_end (one_like t.kind [] true) target n (last_settled t.chips)) ts
    ≡ to_come (record { size = size; number = n; chips = ts; stopped = o; page = page; reads = reads }) target []
unfolding to_come
ends_now target size n page reads ts o none =
    sym (ap (λ (o : Option Verdict). to_come (record { size = size; number = n; chips = ts; stopped = o; page = page; reads = reads }) target []) none ∙ ends_each target n ts)

pub told_now : (f : Fed) (target : List ℕ) (v : Verdict) → f.stopped ≡ Some v → v ≡ to_come f target []
unfolding to_come
told_now f target v h = sym (ap (λ (o : Option Verdict). to_come (record f { stopped = o }) target []) h)
