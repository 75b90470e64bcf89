-- Yes is the task on every chip.
use Rattle.std.proofs.Common.{◌≡◌, ◌↔◌, ℕ, suc, Bool, true, false, if◌then◌else◌, List, [], ◌∷◌, length, Option, Some, None, Result, Ok, Err, refl, sym, ◌∙◌, ap, subst}
use Rattle.std.specs.Str.{bytes_eq}
use Rattle.nor_base.specs.declared.meaning.Start.{Start}
use Rattle.nor_base.specs.declared.step.Step.{Step}
use Rattle.nor_base.specs.declared.step.Step.TheVariants.{Send, Poll, Verify}
use Rattle.nor_base.specs.declared.wrong.Wrong.{Wrong}
use Rattle.nor_base.specs.declared.wrong.Wrong.TheVariants as wrong
use Rattle.nor_base.specs.Parameters.{Parameters}
use Rattle.nor_base.specs.Chip.{Setting, Chip, is_settled, ready}
use Rattle.nor_base.specs.Effect.{effect}
use Rattle.nor_base.specs.Run.{Stop, done, matched, go_on, poll_clocks, polled, is_verify, run, step, DoesTask, DoesTaskOnEvery}
use Rattle.nor_base.proofs.OutcomeLaws.{later_ok}
use Rattle.nor_laws.specs.Laws.{KeepsSize, PollEnds}
use Rattle.nor_check.specs.declared.verdict.Verdict.{Verdict}
use Rattle.nor_check.specs.declared.verdict.Verdict.TheVariants.{Yes, No}
use Rattle.nor_check.specs.declared.verdict.Why.TheVariants as why
use Rattle.nor_check.specs.Order.{is_before}
use Rattle.nor_check.specs.Outcome.{trial, first_difference, at_difference, ended, outcome_from, outcome}
use Rattle.nor_check.specs.Worst.{IsWorst}
use Rattle.nor_check.proofs.Found.{same_arrays, none_differs}

-- a run keeps the size of the array
done_size : (s : Setting) (c d : Chip) (clocks : List ℕ) (r : Result (Chip × List ℕ) Wrong) → KeepsSize → effect s c clocks ≡ r → done r ≡ Ok d
    → length d.array ≡ length c.array
done_size s c d clocks (Ok after) keeps is h =
    let same : after.0 ≡ d = cc in subst (λ (e : Chip). length e.array ≡ length c.array) same (keeps s c after.0 clocks after.1 is)
done_size s c d clocks (Err cause) keeps is h = cc

matched_done : (expect : List ℕ) (d : Chip) (r : Result (Chip × List ℕ) Wrong) → matched expect r ≡ Ok d → done r ≡ Ok d
matched_done expect d (Err cause) h = cc
matched_done expect d (Ok after) h = by (bytes_eq after.1 expect) h
  where
    by : (b : Bool) → (if b then Ok after.0 else Err wrong.Mismatch) ≡ Ok d → done (Ok after) ≡ Ok d
    by true h = h
    by false h = cc

past : (b : Bool) (r : Result Chip Wrong) (d : Chip) → (if b then r else Err wrong.Unknown) ≡ Ok d → r ≡ Ok d
past true r d h = h
past false r d h = cc

step_size : (s : Setting) (c d : Chip) (x : Step) → KeepsSize → PollEnds → step s c x ≡ Ok d → length d.array ≡ length c.array
unfolding step
step_size s c d (Send clocks) keeps ends h = done_size s c d clocks (effect s c clocks) keeps refl h
step_size s c d (Poll clocks) keeps ends h =
    let polls : polled s (suc c.left) c ≡ Ok d = past (bytes_eq clocks poll_clocks) _ d h in
    let end : polled s (suc c.left) c ≡ Ok (record c { left = 0 }) = ends s c in
    let same : record c { left = 0 } ≡ d = cc in
    sym (ap (λ (e : Chip). length e.array) same)
step_size s c d (Verify clocks expect) keeps ends h =
    done_size s c d clocks (effect s c clocks) keeps refl (matched_done expect d (effect s c clocks) (past (is_verify clocks) _ d h))

run_size_by : (s : Setting) (c d : Chip) (x : Step) (f : Chip → Result Chip Stop) (r : Result Chip Wrong) → KeepsSize → PollEnds → step s c x ≡ r
    → ((e : Chip) → f e ≡ Ok d → length d.array ≡ length e.array) → go_on c r f ≡ Ok d → length d.array ≡ length c.array
run_size_by s c d x f (Ok e) keeps ends is more h = more e (later_ok (f e) d h) ∙ step_size s c e x keeps ends is
run_size_by s c d x f (Err cause) keeps ends is more h = cc

run_size : (s : Setting) (c d : Chip) (steps : List Step) → KeepsSize → PollEnds → run s c steps ≡ Ok d → length d.array ≡ length c.array
unfolding run
run_size s c d [] keeps ends h = let same : c ≡ d = cc in sym (ap (λ (e : Chip). length e.array) same)
run_size s c d (x ∷ xs) keeps ends h =
    run_size_by s c d x (λ e. run s e xs) (step s c x) keeps ends refl (λ e is. run_size s e d xs keeps ends is) h

-- Yes at the end
yes_parts : (n : ℕ) (b : Bool) (o : Option ℕ) → (if b then at_difference n o else No n (why.Wrong wrong.NotIdleAtEnd)) ≡ Yes → (b ≡ true) × (o ≡ None)
yes_parts n true None h = (refl, refl)
yes_parts n true (Some a) h = cc
yes_parts n false o h = cc

yes_ended : (s : Setting) (content target : List ℕ) (steps : List Step) (r : Result Chip Stop) → KeepsSize → PollEnds → length content ≡ length target
    → run s (ready s content) steps ≡ r → ended s target (length steps) r ≡ Yes → DoesTask s content target steps
yes_ended s content target steps (Ok c) keeps ends sizes is h =
    let parts = yes_parts (length steps) (is_settled s c) (first_difference c.array target) h in
    record {
      final = c;
      good = record { runs = is; settled = parts.0 };
      array = same_arrays c.array target (run_size s (ready s content) c steps keeps ends is ∙ sizes) parts.1;
    }
yes_ended s content target steps (Err stop) keeps ends sizes is h = cc

pub yes_does : (s : Setting) (content target : List ℕ) (steps : List Step) → KeepsSize → PollEnds → length content ≡ length target
    → outcome s content target steps ≡ Yes → DoesTask s content target steps
unfolding outcome_from
yes_does s content target steps keeps ends sizes h = yes_ended s content target steps (run s (ready s content) steps) keeps ends sizes refl h

pub does_yes : (s : Setting) (content target : List ℕ) (steps : List Step) → DoesTask s content target steps → outcome s content target steps ≡ Yes
unfolding outcome_from
does_yes s content target steps task =
    ap (ended s target (length steps)) task.good.runs
    ∙ ap (λ b. if b then at_difference (length steps) (first_difference task.final.array target) else No (length steps) (why.Wrong wrong.NotIdleAtEnd)) task.good.settled
    ∙ ap (λ array. at_difference (length steps) (first_difference array target)) task.array
    ∙ ap (at_difference (length steps)) (none_differs target target (λ a fits. refl))

none_before_yes : (u : Verdict) → is_before u Yes ≡ false → u ≡ Yes
none_before_yes Yes h = refl
none_before_yes (No n b) h = cc

pub yes_exactly : (m : Parameters) (start : Start) (content target : List ℕ) (steps : List Step) (v : Verdict) → KeepsSize → PollEnds
    → length content ≡ length target → IsWorst (trial m start content target steps) v → (v ≡ Yes) ↔ DoesTaskOnEvery m start content target steps
yes_exactly m start content target steps v keeps ends sizes worst = (
  λ yes s is.
      yes_does s content target steps keeps ends sizes
      (none_before_yes (outcome s content target steps) (subst (λ (u : Verdict). is_before (outcome s content target steps) u ≡ false) yes (worst.first s is))),
  λ task. sym worst.so ∙ does_yes worst.chip content target steps (task worst.chip worst.is),
)
