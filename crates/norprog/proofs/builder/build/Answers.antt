-- The whole path.
use Rattle.std.proofs.Common.{inr, [], sym, subst, arith}
use Rattle.nor_base.specs.Wire.{wire}
use Rattle.norprog.specs.Build.{IsBuilt, IsLate}
use Rattle.norprog.specs.Windows.{job_update}
use Rattle.norprog.proofs.Promise.Build.{built_is, stops_is, cause_is_late}
use Rattle.nor_base.proofs.FaultLaws.{handed_on}
use Rattle.nor_job.proofs.TargetLemmas.{gives_none}
use Rattle.norprog.proofs.builder.build.Goals as goal

pub returns-clause-built : goal.returns-clause-built
returns-clause-built g c =
    subst (IsBuilt c.args.inputs.now c.args.len (wire (g.W.ByteOut.held c.args.out.now) (g.R.ByteIn.ahead c.args.content.now)) (wire (g.W.ByteOut.held c.write_script.new.out) (g.R.ByteIn.ahead c.write_script.new.content)))
    (sym c.report_of.ensures)
    (built_is c.args.inputs.now c.args.len c.in_ok-job.job _ _ _ _ c.in_ok-told.told c.planned_work_does_the_task.ensures c.acceptance.ensures c.in_ok-job.ensures.job c.in_ok-told.ensures.done)

pub returns-in_err-told-clause-refused : goal.returns-in_err-told-clause-refused
returns-in_err-told-clause-refused g c =
    handed_on _ _ _ c.from_residual-in_err-told.ensures.1
    (inr (stops_is c.args.inputs.now c.args.len c.in_ok-job.job _ _ _ _ c.in_err-told.field-0.0 c.planned_work_does_the_task.ensures c.acceptance.ensures c.in_ok-job.ensures.job c.in_err-told.ensures.cut))

pub returns-in_err-job-clause-accepted : goal.returns-in_err-job-clause-accepted
returns-in_err-job-clause-accepted g c = λ image regions m accepted.
    handed_on _ _ _ c.from_residual.ensures.1 (subst IsLate (sym (c.in_err-job.ensures.only_memory image regions m accepted)) tt)

pub returns-in_err-told-clause-accepted : goal.returns-in_err-told-clause-accepted
returns-in_err-told-clause-accepted g c = λ image regions m accepted.
    let cut = c.in_err-told.ensures.cut in
    handed_on _ _ _ c.from_residual-in_err-told.ensures.1 (cause_is_late (job_update c.in_ok-job.job cut.part) _ c.in_err-told.field-0.0 cut.cause)

pub returns-in_err-job-clause-within : goal.returns-in_err-job-clause-within
returns-in_err-job-clause-within g c = record { bytes = []; few = omega arith; given = gives_none (g.R.ByteIn.ahead c.args.content.now) }

pub returns-in_err-told-clause-within : goal.returns-in_err-told-clause-within
returns-in_err-told-clause-within g c =
    let cut = c.in_err-told.ensures.cut in
    record { bytes = cut.part; few = omega (arith, cut.within, c.in_ok-job.ensures.job.accepted.size); given = cut.given }

pub returns-clause-within : goal.returns-clause-within
returns-clause-within g c =
    let done = c.in_ok-told.ensures.done.work in
    record { bytes = done.part; few = omega (arith, done.upto, c.in_ok-job.ensures.job.accepted.size); given = done.given }
