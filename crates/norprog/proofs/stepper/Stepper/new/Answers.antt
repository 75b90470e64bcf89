-- Before the first window.
use Rattle.std.proofs.Common.{◌≡◌, [], List, ◌∙◌, ap}
use Rattle.nor_base.specs.declared.meaning.Strategy.{Strategy}
use Rattle.nor_base.specs.declared.step.Step.{Step}
use Rattle.nor_steps.specs.Writing.{fresh}
use Rattle.norprog.specs.Stepper.{Stepping, IsAtWindow, made, steps_by, update_of}
use Rattle.norprog.specs.Update.{update, IsDoneBy}
use Rattle.norprog.proofs.Promise.Build.{spelled_is}
use Rattle.norprog.proofs.Promise.Made.{at_first, begins_so, none_made}
use Rattle.norprog.proofs.stepper.Stepper.new.Goals as goal

pub returns-clause-ready : goal.returns-clause-ready
returns-clause-ready c =
    let u = update c.args.meaning.now c.args.start.now c.args.verify c.args.have.now c.args.want.now in
    begins_so IsAtWindow u c.window_size.result c.new.result
    (c.new.ensures ∙ ap (λ (by : Strategy). fresh u.m u.start by u.verify) c.strategy-strategy.ensures) (at_first u c.window_size.result c.requires.workable c.window_size.ensures.size)

pub returns-clause-none : goal.returns-clause-none
returns-clause-none c =
    let u = update c.args.meaning.now c.args.start.now c.args.verify c.args.have.now c.args.want.now in
    begins_so (λ (s : Stepping). made s ≡ []) u c.window_size.result c.new.result
    (c.new.ensures ∙ ap (λ (by : Strategy). fresh u.m u.start by u.verify) c.strategy-strategy.ensures) (none_made u)

pub returns-clause-only : goal.returns-clause-only
returns-clause-only c =
    let u = update c.args.meaning.now c.args.start.now c.args.verify c.args.have.now c.args.want.now in
    begins_so (λ (s : Stepping). (steps : List Step) → IsDoneBy (update_of s) steps → steps ≡ steps_by (update_of s)) u c.window_size.result c.new.result
    (c.new.ensures ∙ ap (λ (by : Strategy). fresh u.m u.start by u.verify) c.strategy-strategy.ensures)
    (λ steps is.
    c.there_is_planned_work.ensures.one u.m u.start u.verify u.have u.want steps (steps_by u) c.requires.workable is
    (spelled_is c.there_is_planned_work.ensures.spelled c.spelling.ensures.has u c.requires.workable).planned)
