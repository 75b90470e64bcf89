-- The verdict to come is that of all steps.
use Rattle.std.proofs.Common.{◌≡◌, ◌+◌, ◌∷◌, List, ℕ, drop, sym, ◌∙◌, ap, subst}
use Rattle.std.specs.Prelude.{◌↔◌}
use Rattle.std.proofs.Math.ListN.{drop_of_length-le}
use Rattle.std.proofs.lemmas.List.{at_drop_more}
use Rattle.nor_base.specs.Run.{DoesTaskOnEvery}
use Rattle.nor_base.specs.declared.step.Step.{Step}
use Rattle.nor_check.specs.declared.verdict.Verdict.{Verdict}
use Rattle.nor_check.specs.declared.verdict.Verdict.TheVariants.{Yes}
use Rattle.nor_check.specs.Fed.{to_come}
use Rattle.nor_check.specs.Outcome.{trial}
use Rattle.nor_check.specs.Worst.{IsWorst}
use Rattle.nor_check.proofs.checker.check.Goals as goal

pub loop-step-init : goal.loop-step-init
loop-step-init c = record {
  worst = subst (λ (have : List ℕ). IsWorst (trial c.args.meaning.now c.args.start.now have c.args.want.now c.args.steps.now) (to_come c.new-checker.result c.args.want.now c.args.steps.now))
      c.in_ok-array.ensures.items (c.new-checker.ensures.worst c.args.want.now c.args.steps.now);
  yes = subst (λ (have : List ℕ). (to_come c.new-checker.result c.args.want.now c.args.steps.now ≡ Yes)
      ↔ DoesTaskOnEvery c.args.meaning.now c.args.start.now have c.args.want.now c.args.steps.now) c.in_ok-array.ensures.items (c.new-checker.ensures.yes c.args.want.now c.args.steps.now c.requires.want);
  number = c.new-checker.ensures.begins.0;
  size = c.new-checker.ensures.begins.1;
}

pub loop-step-preserved : goal.loop-step-preserved
loop-step-preserved c =
    let rest = drop (c.loop-step.step-index + 1) c.args.steps.now in
    let same : to_come c.loop-step.checker c.args.want.now (drop c.loop-step.step-index c.args.steps.now) ≡ to_come c.step.new.self c.args.want.now rest =
    at_drop_more (to_come c.loop-step.checker c.args.want.now) c.args.steps.now c.loop-step.step-index c.step-item.result c.loop-step-test.true
    ∙ ap (λ (x : Step). to_come c.loop-step.checker c.args.want.now (x ∷ rest)) (sym c.step-item.is) ∙ sym (c.in_ok-step.ensures.fed c.args.want.now rest) in
    record {
      worst = subst (IsWorst (trial c.args.meaning.now c.args.start.now c.args.have.now c.args.want.now c.args.steps.now)) same c.loop-step.invariant.worst;
      yes = subst (λ (v : Verdict). (v ≡ Yes) ↔ DoesTaskOnEvery c.args.meaning.now c.args.start.now c.args.have.now c.args.want.now c.args.steps.now) same c.loop-step.invariant.yes;
      number = c.in_ok-step.ensures.number ∙ ap (λ n. n + 1) c.loop-step.invariant.number;
      size = c.step.ensures.size ∙ c.loop-step.invariant.size;
    }

pub returns-clause-yes : goal.returns-clause-yes
returns-clause-yes c =
    subst (λ (v : Verdict). (v ≡ Yes) ↔ DoesTaskOnEvery c.args.meaning.now c.args.start.now c.args.have.now c.args.want.now c.args.steps.now)
    (ap (to_come c.loop-step.checker c.args.want.now) (drop_of_length-le c.args.steps.now c.loop-step-test.false) ∙ sym c.verdict.ensures) c.loop-step.invariant.yes
