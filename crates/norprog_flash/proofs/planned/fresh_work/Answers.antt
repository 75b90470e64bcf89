-- The plan of the inputs is that of the work.
use Rattle.nor_base.proofs.FaultLaws.{handed_on}
use Rattle.norprog_flash.specs.Refused.{RefusesWork}
use Rattle.norprog_flash.proofs.WorkLemmas.{fresh_is, fresh_refused}
use Rattle.norprog_flash.proofs.planned.fresh_work.Goals as goal

pub returns-in_err-lines-clause-refused : goal.returns-in_err-lines-clause-refused
returns-in_err-lines-clause-refused c =
    handed_on (RefusesWork c.args.inputs.now c.args.content.now c.args.content.now) _ c.in_err-lines.field-0.0 c.from_residual-in_err-lines.ensures.1
    (fresh_refused c.args.inputs.now c.args.content.now c.in_ok-goal.goal c.in_ok-goal.ensures.goal _ c.in_err-lines.ensures.stops)

pub returns-clause-work : goal.returns-clause-work
returns-clause-work c =
    fresh_is c.args.inputs.now c.args.content.now c.in_ok-goal.goal c.in_ok-goal.ensures.goal c.in_ok-lines.lines.items c.in_ok-lines.report
    c.in_ok-lines.ensures.plan
