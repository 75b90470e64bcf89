-- The verdict is that of the steps that the device told, and the first cause is told.
use Rattle.std.proofs.Common.{◌∙◌, ap, sym, subst, length}
use Rattle.norprog_check.specs.Checked.{checking}
use Rattle.nor_base.proofs.FaultLaws.{handed_on}
use Rattle.norprog_check.specs.declared.fault.CheckStop.TheVariants.{Build}
use Rattle.norprog_check.specs.declared.fault.StreamStop.TheVariants.{Check}
use Rattle.norprog_check.specs.declared.finding.Finding.{Finding}
use Rattle.norprog_check.specs.Lifted.{lifted_reading}
use Rattle.norprog_check.specs.Readings.{IsJudged}
use Rattle.norprog_check.specs.Stream.{Refused, Unchecked, work}
use Rattle.norprog_check.proofs.CheckLemmas.{checked_is, goal_size, taken_of}
use Rattle.norprog_check.proofs.StreamLemmas.{unheld, unread}
use Rattle.norprog_check.proofs.stream.check_stream.Goals as goal

pub returns-in_err-job-clause-unchecked : goal.returns-in_err-job-clause-unchecked
returns-in_err-job-clause-unchecked g c = handed_on _ _ (Check (Build c.in_err-job.field-0.0)) c.from_residual.ensures.1 (Refused _ c.in_err-job.ensures.refused)

pub judge-requires-clause-sizes : goal.judge-requires-clause-sizes
judge-requires-clause-sizes g c =
    (c.in-Ok.ensures.read.whole, ap length c.as_slice.ensures.value ∙ goal_size c.in_ok-job.job _ _ _ _ c.in-Ok.ensures.read)

pub returns-in_err-judge-in-Ok-clause-unchecked : goal.returns-in_err-judge-in-Ok-clause-unchecked
returns-in_err-judge-in-Ok-clause-unchecked g c =
    handed_on _ _ (lifted_reading c.in_err-judge-in-Ok.field-0.0) c.from_residual-in_err-judge-in-Ok.ensures.1
    (unread Finding (work (checking c.args.inputs.now c.args.len _ _) _ _) _ _ _ _ (taken_of c.args.inputs.now c.args.len c.in_ok-job.job c.in_ok-job.ensures.job)
    c.in_err-judge-in-Ok.ensures.stopped c.in_err-judge-in-Ok.ensures.count)

pub returns-in-Ok-clause-found : goal.returns-in-Ok-clause-found
returns-in-Ok-clause-found g c =
    let job = c.in_ok-job.job in
    let have = c.in-Ok.have.items in
    let found = c.in_ok-judge-in-Ok.field-0 in
    let told = c.in_ok-judge-in-Ok.ensures.judged in (
      told.0,
      told.1,
      checked_is c.args.inputs.now c.args.len told.0 job _ _ have c.in-Ok.want.items found c.in_ok-job.ensures.job c.in-Ok.ensures.read
          (subst (λ want. IsJudged job have want found told.0) c.as_slice.ensures.value told.2),
    )

pub returns-in_err-look_through-in-Err-clause-unchecked : goal.returns-in_err-look_through-in-Err-clause-unchecked
returns-in_err-look_through-in-Err-clause-unchecked g c =
    handed_on _ _ (lifted_reading c.in_err-look_through-in-Err.field-0.0) c.from_residual-in_err-look_through-in-Err.ensures.1
    (unread (Unit {0}) (work (checking c.args.inputs.now c.args.len _ _) _ _) _ _ _ _ (taken_of c.args.inputs.now c.args.len c.in_ok-job.job c.in_ok-job.ensures.job)
    c.in_err-look_through-in-Err.ensures.stopped c.in_err-look_through-in-Err.ensures.count)

pub returns-clause-unchecked : goal.returns-clause-unchecked
returns-clause-unchecked g c =
    subst (Unchecked _ _ _) (sym c.from.ensures)
    (unheld (work (checking c.args.inputs.now c.args.len _ _) _ _) c.in_ok-job.job _ _ _ _ c.in_ok-job.ensures.job c.in_ok-look_through-in-Err.ensures.read
    c.in-Err.ensures.stopped c.in-Err.ensures.count)
