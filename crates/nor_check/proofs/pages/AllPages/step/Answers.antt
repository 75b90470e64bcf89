-- Alike before and after, or told apart first.
use Rattle.std.proofs.Common.{List, ◌∷◌, subst, sym, ◌∙◌}
use Rattle.nor_check.specs.Chips.{Together}
use Rattle.nor_check.specs.Pages.{IsToldBy, StepsEach}
use Rattle.nor_check.specs.View.{step_of}
use Rattle.nor_check.proofs.Spread.{view_step, view_parted}
use Rattle.nor_check.proofs.Witnessed.{alike_told}
use Rattle.nor_check.proofs.pages.AllPages.step.Goals as goal

pub returns-then-not-tells_apart-clause-step : goal.returns-then-not-tells_apart-clause-step
returns-then-not-tells_apart-clause-step c =
    view_step c.self.inside.alike c.self.inside.own c.step.new.self c.self.inside.others.items c.args.self.now (step_of c.args.step) c.step.result c.if-not-self.false c.self.view_is
    c.tells_apart.ensures.accepted c.self.invariant (sym c.tells_apart.ensures.apart ∙ c.if-not-tells_apart.true) c.step.ensures

pub returns-then-not-tells_apart-clause-told : goal.returns-then-not-tells_apart-clause-told
returns-then-not-tells_apart-clause-told c =
    subst (IsToldBy c.args.self.now c.step.result (step_of c.args.step)) (sym c.page.ensures)
    (alike_told c.self.inside.alike c.self.inside.own c.step.new.self c.self.inside.others.items c.args.self.now (step_of c.args.step) c.step.result c.if-not-self.false c.self.view_is
    c.self.invariant c.step.ensures)

pub returns-clause-step : goal.returns-clause-step
returns-clause-step c =
    subst (λ (ts : List Together). StepsEach ts (c.step_apart-2.new.own ∷ c.step_apart-2.new.others.items) c.step_apart-2.result (step_of c.args.step))
    (view_parted c.self.inside.alike c.self.inside.own c.self.inside.others.items c.args.self.now c.in_ok-others.others.items c.if-not-self.false c.self.view_is c.self.invariant
    c.in_ok-others.ensures)
    c.step_apart-2.ensures.step

pub returns-clause-told : goal.returns-clause-told
returns-clause-told c =
    subst (λ (ts : List Together). IsToldBy ts c.step_apart-2.result (step_of c.args.step) c.step_apart-2.new.told)
    (view_parted c.self.inside.alike c.self.inside.own c.self.inside.others.items c.args.self.now c.in_ok-others.others.items c.if-not-self.false c.self.view_is c.self.invariant
    c.in_ok-others.ensures)
    c.step_apart-2.ensures.told
