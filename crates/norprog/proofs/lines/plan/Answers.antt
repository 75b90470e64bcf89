-- The job that the inputs ask for.
use Rattle.std.proofs.Common.{◌≡◌, sym, subst}
use Rattle.nor_job.specs.Causes.{RefusesInputs}
use Rattle.norprog.specs.Build.{IsLate}
use Rattle.nor_base.proofs.FaultLaws.{handed_on}
use Rattle.norprog.proofs.Promise.Plan.{stops_inputs, reads_within}
use Rattle.norprog.proofs.lines.plan.Goals as goal

pub returns-in_err-job-clause-accepted : goal.returns-in_err-job-clause-accepted
returns-in_err-job-clause-accepted g c = λ image regions m accepted.
    handed_on _ _ _ c.from_residual.ensures.1 (subst IsLate (sym (c.in_err-job.ensures.only_memory image regions m accepted)) tt)

pub returns-clause-refused : goal.returns-clause-refused
returns-clause-refused g c =
    stops_inputs c.args.inputs.now c.args.len c.in_ok-job.job _ _ _ _
    (λ why. RefusesInputs c.args.inputs.now c.args.len why × (c.plan_job.new.content ≡ c.args.content.now) × (c.plan_job.new.out ≡ c.args.out.now)) c.plan_job.result
    c.in_ok-job.ensures.job c.plan_job.ensures.cut

pub returns-clause-within : goal.returns-clause-within
returns-clause-within g c =
    reads_within c.args.inputs.now c.args.len c.in_ok-job.job _ _ _ _ c.plan_job.result c.in_ok-job.ensures.job c.plan_job.ensures.planned c.plan_job.ensures.cut
