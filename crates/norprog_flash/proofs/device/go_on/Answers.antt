-- By what is to be done.
use Rattle.norprog_flash.specs.Begun.{session}
use Rattle.norprog_flash.proofs.EndedLemmas.{compare_ends, compare_refused, plan_ends}
use Rattle.norprog_flash.proofs.device.go_on.Goals as goal

pub returns-in-Plan-clause-ends : goal.returns-in-Plan-clause-ends
returns-in-Plan-clause-ends g c = λ first read.
    plan_ends (session c.args.job.now c.args.limits.now c.args.held.now.reading) first _ _ c.only_plan.result c.in-Plan.is read c.only_plan.ensures.planned

pub returns-in-Compare-clause-ends : goal.returns-in-Compare-clause-ends
returns-in-Compare-clause-ends g c = λ first read.
    compare_ends (session c.args.job.now c.args.limits.now c.args.held.now.reading) first _ _ c.compare_read.result c.in-Compare.is read c.compare_read.ensures.compared

pub returns-in-Compare-clause-refused : goal.returns-in-Compare-clause-refused
returns-in-Compare-clause-refused g c = compare_refused c.args.job.now c.args.held.now.reading _ c.compare_read.result c.compare_read.ensures.refused
