-- One of them more.
use Rattle.std.proofs.Common.{[], ◌∷◌, length, sym, ap, subst, ◌∙◌, arith}
use Rattle.std.proofs.lemmas.List.{length-set}
use Rattle.nor_check.specs.Pages.{IsToldBy, each_step}
use Rattle.nor_check.specs.View.{step_of}
use Rattle.nor_check.proofs.Each.{in_front, first_moved, next_moved}
use Rattle.nor_check.proofs.Witnessed.{own_told, moves_on, more_told}
use Rattle.nor_check.proofs.pages.step_apart.Goals as goal

pub loop-chips-preserved : goal.loop-chips-preserved
loop-chips-preserved c = record {
  told = c.loop-chips.invariant.told
      ∙ next_moved c.step-answer.new.self c.loop-chips.chips-items c.loop-chips.chips-index c.chips-item.result c.step-next.new.self (step_of c.args.step) c.loop-chips.answer c.step-next.result
      c.first_of-answer.result (omega (arith, c.loop-chips-test.true, c.loop-chips.auto.chips-items)) c.step-next.ensures c.first_of-answer.ensures;
  same = length-set c.loop-chips.chips-items c.loop-chips.chips-index c.step-next.new.self ∙ c.loop-chips.invariant.same;
  rest = moves_on c.args.others.now.items c.loop-chips.chips-items c.loop-chips.chips-index c.step-next.new.self
      (omega (arith, c.loop-chips-test.true, c.loop-chips.auto.chips-items)) c.loop-chips.invariant.rest;
  page = more_told c.args.own.now c.args.others.now.items c.loop-chips.chips-items c.loop-chips.chips-index c.chips-item.result c.step-next.new.self (step_of c.args.step)
      c.loop-chips.answer c.step-next.result c.first_of-answer.result c.loop-chips.told c.page-page.result c.told_of.result
      (omega (arith, c.loop-chips-test.true, c.loop-chips.auto.chips-items)) c.loop-chips.invariant.rest c.step-next.ensures c.first_of-answer.ensures c.page-page.ensures
      c.told_of.ensures c.loop-chips.invariant.page;
}

pub loop-chips-init : goal.loop-chips-init
loop-chips-init c = record {
  told = first_moved c.args.own.now c.step-answer.new.self c.args.others.now.items (step_of c.args.step) c.step-answer.result c.step-answer.ensures
      ∙ ap (λ items. in_front c.step-answer.result (c.step-answer.new.self ∷ []) (each_step items (step_of c.args.step))) (sym c.deref_mut-chips-items.ensures.value);
  same = ap length c.deref_mut-chips-items.ensures.value;
  rest = c.deref_mut-chips-items.ensures.value;
  page = subst (IsToldBy (c.args.own.now ∷ c.args.others.now.items) c.step-answer.result (step_of c.args.step)) (sym c.page.ensures)
      (own_told c.args.own.now c.step-answer.new.self c.args.others.now.items (step_of c.args.step) c.step-answer.result c.step-answer.ensures);
}
