-- The verdict to come is that of all steps, and whatever shows it shows that of all.
use Rattle.std.proofs.Common.{◌≡◌, ◌==◌, ◌+◌, ◌<◌, ◌∷◌, List, ℕ, drop, length, sym, ◌∙◌, ap, subst}
use Rattle.std.proofs.Math.ListN.{drop_of_length-le}
use Rattle.std.proofs.lemmas.List.{at_drop_more, drop_more}
use Rattle.nor_base.specs.declared.step.Step.{Step}
use Rattle.nor_check.specs.declared.verdict.Why.{Why}
use Rattle.nor_check.specs.declared.verdict.Verdict.TheVariants.{No}
use Rattle.nor_check.specs.declared.verdict.Witness.{Witness}
use Rattle.nor_check.specs.Fed.{IsShown, to_come}
use Rattle.nor_check.specs.Witness.{Witnesses, even}
use Rattle.nor_check.specs.Outcome.{trial}
use Rattle.nor_check.specs.Worst.{IsWorst}
use Rattle.nor_check.proofs.checker.check_shown.Goals as goal

pub loop-step-init : goal.loop-step-init
loop-step-init c = record {
  worst = subst (λ (have : List ℕ). IsWorst (trial c.args.meaning.now c.args.start.now have c.args.want.now c.args.steps.now) (to_come c.new-checker.result c.args.want.now c.args.steps.now))
      c.in_ok-array.ensures.items (c.new-checker.ensures.worst c.args.want.now c.args.steps.now);
  shown = subst (λ (have : List ℕ). (step : ℕ) (why : Why) (w : Witness) → IsShown c.new-checker.result c.args.want.now c.args.steps.now (No step why) w → (n : ℕ) → w.reads < n
      → Witnesses (trial c.args.meaning.now c.args.start.now have c.args.want.now c.args.steps.now) step why (even n (step == length c.args.steps.now) w.page))
      c.in_ok-array.ensures.items (c.new-checker.ensures.shown c.args.want.now c.args.steps.now);
  number = c.new-checker.ensures.begins.0;
  size = c.new-checker.ensures.begins.1;
}

pub loop-step-preserved : goal.loop-step-preserved
loop-step-preserved c =
    let rest = drop (c.loop-step.step-index + 1) c.args.steps.now in
    let whole : drop c.loop-step.step-index c.args.steps.now ≡ c.step-item.result ∷ rest =
    drop_more c.args.steps.now c.loop-step.step-index c.step-item.result c.loop-step-test.true ∙ ap (λ (x : Step). x ∷ rest) (sym c.step-item.is) in
    let same : to_come c.loop-step.checker c.args.want.now (drop c.loop-step.step-index c.args.steps.now) ≡ to_come c.step.new.self c.args.want.now rest =
    at_drop_more (to_come c.loop-step.checker c.args.want.now) c.args.steps.now c.loop-step.step-index c.step-item.result c.loop-step-test.true
    ∙ ap (λ (x : Step). to_come c.loop-step.checker c.args.want.now (x ∷ rest)) (sym c.step-item.is) ∙ sym (c.in_ok-step.ensures.fed c.args.want.now rest) in
    record {
      worst = subst (IsWorst (trial c.args.meaning.now c.args.start.now c.args.have.now c.args.want.now c.args.steps.now)) same c.loop-step.invariant.worst;
      shown = λ step why w h n low.
          c.loop-step.invariant.shown step why w
          (subst (λ (xs : List Step). IsShown c.loop-step.checker c.args.want.now xs (No step why) w) (sym whole) (c.in_ok-step.ensures.shown c.args.want.now rest (No step why) w h)) n low;
      number = c.in_ok-step.ensures.number ∙ ap (λ n. n + 1) c.loop-step.invariant.number;
      size = c.step.ensures.size ∙ c.loop-step.invariant.size;
    }

pub returns-clause-worst : goal.returns-clause-worst
returns-clause-worst c =
    subst (IsWorst (trial c.args.meaning.now c.args.start.now c.args.have.now c.args.want.now c.args.steps.now))
    (ap (to_come c.loop-step.checker c.args.want.now) (drop_of_length-le c.args.steps.now c.loop-step-test.false) ∙ sym c.verdict-verdict.ensures) c.loop-step.invariant.worst

pub returns-clause-shown : goal.returns-clause-shown
returns-clause-shown c = λ step why is n low.
    c.loop-step.invariant.shown step why c.witness-witness.result
    (subst (λ (xs : List Step). IsShown c.loop-step.checker c.args.want.now xs (No step why) c.witness-witness.result)
    (sym (drop_of_length-le c.args.steps.now c.loop-step-test.false)) (c.witness-witness.ensures step why (sym c.verdict-verdict.ensures ∙ is))) n low
