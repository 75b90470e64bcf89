-- One step more.
use Rattle.std.proofs.Common.{◌≡◌, ◌+◌, ◌∙◌, ℕ, List, [], ◌∷◌, ◌++◌, ap, take, refl, sym, subst, arith}
use Rattle.std.proofs.lemmas.List.Elements.{All-nil}
use Rattle.std.specs.Prelude.{All}
use Rattle.nor_base.specs.declared.step.Step.{Step}
use Rattle.nor_script.specs.View.{step_of}
use Rattle.nor_serprog.specs.Done.{IsDoable}
use Rattle.norprog_player.specs.Put.{AreAnswered, put_as}
use Rattle.norprog_player.proofs.PutLemmas.{answered_all, answered_next, doable_next, form_more, goes_next, takes_next}
use Rattle.norprog_player.proofs.put.answered.Goals as goal

pub loop-step-init : goal.loop-step-init
loop-step-init c = record {
  put = (c.new-put.ensures, refl);
  form = subst (All IsDoable) (sym c.new-put.ensures) (All-nil IsDoable);
  rest = λ d goes. goes;
}

pub answered_step-requires : goal.answered_step-requires
answered_step-requires c = record {
  taken = takes_next c.args.chip.now c.loop-step.chip c.args.steps.now c.loop-step.step-index c.step-item.result c.loop-step-test.true c.step-item.is
      c.loop-step.invariant.rest c.requires.goes;
}

pub loop-step-preserved : goal.loop-step-preserved
loop-step-preserved c =
    let v = c.loop-step.invariant in
    let given = c.in_ok-given.given.items in
    let one = c.in_ok-given.ensures in
    let is = subst (λ (l : List ℕ). step_of c.put_as.result ≡ put_as c.step-item.result l) c.as_slice.ensures.value c.put_as.ensures in
    let more : c.push.new.self ≡ c.loop-step.put ++ put_as c.step-item.result given ∷ [] =
    c.in_ok-push.ensures.kept ∙ ap (λ (y : Step). c.loop-step.put ++ y ∷ []) is in
    record {
      put = subst (λ (l : List Step). AreAnswered c.args.chip.now (take (c.loop-step.step-index + 1) c.args.steps.now) l c.answered_step.new.chip) (sym more)
          (answered_next c.args.chip.now c.loop-step.chip c.answered_step.new.chip c.args.steps.now c.loop-step.put c.loop-step.step-index c.step-item.result given
          c.loop-step-test.true c.step-item.is v.put one.1);
      form = subst (All IsDoable) (sym more)
          (form_more c.loop-step.put _ v.form
          (doable_next c.args.chip.now c.loop-step.chip c.args.steps.now c.loop-step.step-index c.step-item.result c.loop-step-test.true c.step-item.is v.rest
          c.answered_step.new.chip given c.requires.goes one.0 one.1));
      rest = goes_next c.args.chip.now c.loop-step.chip c.args.steps.now c.loop-step.step-index c.step-item.result c.loop-step-test.true c.step-item.is v.rest
          c.answered_step.new.chip given one.1;
    }

pub returns-clause-put : goal.returns-clause-put
returns-clause-put c =
    answered_all c.args.chip.now c.loop-step.chip c.args.steps.now c.loop-step.put c.loop-step.step-index (omega (arith, c.loop-step-test.false)) c.loop-step.invariant.put

pub returns-clause-form : goal.returns-clause-form
returns-clause-form c = c.loop-step.invariant.form
