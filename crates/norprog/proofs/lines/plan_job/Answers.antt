-- From the first window to the report.
use Rattle.std.proofs.Common.{[], subst}
use Rattle.nor_job.specs.declared.job.Job.{Job}
use Rattle.nor_base.specs.Wire.{wire}
use Rattle.norprog.specs.Windows.{IsCutPlan}
use Rattle.nor_base.proofs.DeviceLaws.{Appends-none}
use Rattle.nor_base.proofs.FaultLaws.{handed_on}
use Rattle.norprog.proofs.Promise.Plan.{plans_job, cuts_job}
use Rattle.norprog.proofs.lines.plan_job.Goals as goal

pub returns-in_err-planner-clause-cut : goal.returns-in_err-planner-clause-cut
returns-in_err-planner-clause-cut g c =
    handed_on _ _ _ c.from_residual.ensures.1 (c.in_err-planner.ensures.refused.1 (g.R.ByteIn.ahead c.args.content.now) (g.W.ByteOut.held c.args.out.now))

pub returns-in_err-put_plan-clause-cut : goal.returns-in_err-put_plan-clause-cut
returns-in_err-put_plan-clause-cut g c =
    let a = g.R.ByteIn.ahead c.args.content.now in
    let x = g.W.ByteOut.held c.args.out.now in
    handed_on _ _ _ c.from_residual-in_err-put_plan.ensures.1
    (subst (λ (j : Job). IsCutPlan j (wire x a) (wire (g.W.ByteOut.held c.put_plan.new.out) (g.R.ByteIn.ahead c.put_plan.new.content)) c.in_err-put_plan.field-0.0) c.in_ok-planner.ensures.job
    (c.in_err-put_plan.ensures.cut a [] x (c.in_ok-planner.ensures.told a) (Appends-none x)))

pub returns-clause-planned : goal.returns-clause-planned
returns-clause-planned g c =
    plans_job c.in_ok-planner.planner c.put_plan.new.planner c.args.job.now _ _ _ _ c.close.result (c.in_ok-planner.ensures.told _) c.in_ok-planner.ensures.job
    c.in_ok-put_plan.ensures.put c.close.ensures.planned

pub returns-clause-cut : goal.returns-clause-cut
returns-clause-cut g c =
    cuts_job c.in_ok-planner.planner c.put_plan.new.planner c.args.job.now _ _ _ _ c.close.result (c.in_ok-planner.ensures.told _) c.in_ok-planner.ensures.job
    c.in_ok-put_plan.ensures.put c.close.ensures.stopped
