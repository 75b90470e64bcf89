-- The steps are counted, then the lines are made.
use Rattle.std.proofs.Common.{None, ◌∙◌, subst, ap}
use Rattle.nor_base.specs.declared.meaning.Strategy.{Strategy}
use Rattle.nor_base.specs.Parameters.{Parameters}
use Rattle.nor_outline.specs.Outline.{IsStretchPlan, RefusesLines}
use Rattle.nor_steps.specs.Stretch.{stretch}
use Rattle.nor_steps.specs.Texts.{IsTold, StopsText, unit_steps}
use Rattle.nor_steps.specs.Writing.{Writing, output}
use Rattle.nor_base.proofs.FaultLaws.{handed_on}
use Rattle.nor_outline.proofs.PlanText.{uncounted}
use Rattle.nor_outline.proofs.plan.PlanWriter.window_plan.Goals as goal

pub returns-in_err-told-clause-stopped : goal.returns-in_err-told-clause-stopped
returns-in_err-told-clause-stopped c =
    handed_on _ _ _ c.from_residual.ensures.1
    (uncounted c.args.self.now c.args.at c.args.have.now c.args.want.now c.in_err-told.field-0.0 c.in_err-told.ensures.count
    (subst (λ (w : Writing). StopsText unit_steps (output w None) None (stretch c.args.at c.args.have.now c.args.want.now) c.in_err-told.field-0.0) c.self.view_is c.in_err-told.ensures.stopped))

pub returns-in_err-lines-clause-stopped : goal.returns-in_err-lines-clause-stopped
returns-in_err-lines-clause-stopped c =
    let w = c.args.self.now in
    let why = c.in_err-lines.field-0.0 in
    let meaning = c.meaning-meaning.ensures ∙ ap (λ (w : Writing). w.streaming.meaning) c.self.view_is in
    let by = c.strategy-strategy.ensures ∙ ap (λ (w : Writing). w.streaming.by) c.self.view_is in
    handed_on _ _ _ c.from_residual-in_err-lines.ensures.1
    (subst (λ (m : Parameters). RefusesLines m w.streaming.by (stretch c.args.at c.args.have.now c.args.want.now) why) meaning
    (subst (λ (b : Strategy). RefusesLines c.meaning-meaning.result.now b (stretch c.args.at c.args.have.now c.args.want.now) why) by c.in_err-lines.ensures.stopped))

pub returns-clause-told : goal.returns-clause-told
returns-clause-told c =
    subst (λ (w : Writing). IsTold w c.more.new.self (stretch c.args.at c.args.have.now c.args.want.now) c.in_ok-told.told) c.self.view_is c.in_ok-told.ensures.written.steps

pub returns-clause-lines : goal.returns-clause-lines
returns-clause-lines c =
    let w = c.args.self.now in
    let lines = c.in_ok-lines.lines.items in
    let meaning = c.meaning-meaning.ensures ∙ ap (λ (w : Writing). w.streaming.meaning) c.self.view_is in
    let by = c.strategy-strategy.ensures ∙ ap (λ (w : Writing). w.streaming.by) c.self.view_is in
    subst (λ (m : Parameters). IsStretchPlan m w.streaming.by (stretch c.args.at c.args.have.now c.args.want.now) lines) meaning
    (subst (λ (b : Strategy). IsStretchPlan c.meaning-meaning.result.now b (stretch c.args.at c.args.have.now c.args.want.now) lines) by c.in_ok-lines.ensures.lines)
