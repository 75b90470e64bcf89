-- The text that was looked through is the one that is checked, and the causes are its own.
use Rattle.std.proofs.Common.{◌∙◌, ap, sym, subst, length, arith, rules, inr, Err}
use Rattle.norprog_check.specs.declared.finding.Finding.{Finding}
use Rattle.nor_script.specs.declared.fault.ReadFault.{ReadFault}
use Rattle.nor_base.proofs.DeviceLaws.{risen_some}
use Rattle.nor_base.proofs.FaultLaws.{answered, handed_on}
use Rattle.nor_base.specs.Device.{Finite, raised}
use Rattle.nor_script.specs.Stream.{StopsReader, CountsRead}
use Rattle.norprog_check.specs.declared.fault.CheckStop.TheVariants.{Build}
use Rattle.norprog_check.specs.Checked.{CountsReader, IsLate, IsOfContent, checking, StopsCheck}
use Rattle.norprog_check.specs.Readings.{IsJudged}
use Rattle.norprog_check.proofs.CheckLemmas.{checked_is, goal_size, taken_of}
use Rattle.norprog_check.proofs.FaultLemmas.{fault_in, in_content, in_fails_none, memory_is_late, told_in, stops_check}
use Rattle.norprog_check.proofs.checker.check_script.Goals as goal

pub returns-in_err-job-clause-accepted : goal.returns-in_err-job-clause-accepted
returns-in_err-job-clause-accepted g c = λ image regions m accepted.
    handed_on IsLate _ (Build c.in_err-job.field-0.0) c.from_residual.ensures.1 (memory_is_late _ (c.in_err-job.ensures.only_memory image regions m accepted))

pub returns-in_err-job-clause-spelled : goal.returns-in_err-job-clause-spelled
returns-in_err-job-clause-spelled g c = λ image regions m steps accepted script.
    handed_on IsOfContent _ (Build c.in_err-job.field-0.0) c.from_residual.ensures.1 (memory_is_late _ (c.in_err-job.ensures.only_memory image regions m accepted))

pub returns-in_err-look_in-clause-reads : goal.returns-in_err-look_in-clause-reads
returns-in_err-look_in-clause-reads g c =
    let why = c.in_err-look_in.field-0.0 in (
      search rules,
      answered _ (CountsReader (g.R.ByteIn.count c.args.content.now) (g.R.ByteIn.count c.args.content.now)) why
          (sym (ap (raised (g.R.ByteIn.count c.args.content.now)) (in_fails_none c.args.script.now why c.in_err-look_in.ensures.stopped))) c.from_residual-in_err-look_in.ensures.1,
    )

pub judge-requires-clause-sizes : goal.judge-requires-clause-sizes
judge-requires-clause-sizes g c =
    (c.in_ok-have.ensures.read.whole, ap length c.as_slice.ensures.value ∙ goal_size c.in_ok-job.job _ _ _ _ c.in_ok-have.ensures.read)

pub returns-in-Ok-clause-checked : goal.returns-in-Ok-clause-checked
returns-in-Ok-clause-checked g c =
    let text = c.args.script.now in
    let have = c.in_ok-have.have.items in
    checked_is c.args.inputs.now c.args.len text c.in_ok-job.job _ _ have c.in_ok-have.want.items c.in-Ok.found c.in_ok-job.ensures.job c.in_ok-have.ensures.read
    (subst (λ want. IsJudged c.in_ok-job.job have want c.in-Ok.found text) c.as_slice.ensures.value (told_in _ text c.new.ensures c.in-Ok.ensures.judged))

pub returns-in-Err-Script-clause-spelled : goal.returns-in-Err-Script-clause-spelled
returns-in-Err-Script-clause-spelled g c = λ image regions m steps accepted script.
    let text = c.args.script.now in
    let stops = subst (StopsReader (Finite c.new.result.rest.now) (Finite c.judge.new.script.rest.now)) c.in-Err-Script.field-0-is c.in-Err-Script.ensures.stopped in
    subst IsOfContent (sym c.from.ensures)
    (in_content text _ c.faultless_scripts.ensures c.in_ok-look_in.ensures.spelled (fault_in text c.in-Err-Script.fault (told_in _ text c.new.ensures stops)))

pub returns-in-Err-Script-clause-refused : goal.returns-in-Err-Script-clause-refused
returns-in-Err-Script-clause-refused g c =
    let text = c.args.script.now in
    let t = c.args.inputs.now in
    let stops = subst (StopsReader (Finite c.new.result.rest.now) (Finite c.judge.new.script.rest.now)) c.in-Err-Script.field-0-is c.in-Err-Script.ensures.stopped in
    let read = c.in_ok-have.ensures.read in
    let size = c.in_ok-job.ensures.job.accepted.size in
    let at = checking t c.args.len (g.R.ByteIn.ahead c.args.content.now) (g.R.ByteIn.ahead c.read_content.new.content) in
    inr (subst (StopsCheck at text) (sym c.from.ensures)
    (stops_check at text c.in_ok-have.have.items _ c.faultless_scripts.ensures c.in_ok-look_in.ensures.spelled
    (taken_of t c.args.len c.in_ok-job.job c.in_ok-job.ensures.job) (omega (arith, read.whole, size)) read.given
    (fault_in text c.in-Err-Script.fault (told_in _ text c.new.ensures stops))))

-- a text in memory never fails
pub unreachable-requires : goal.unreachable-requires
unreachable-requires g c =
    let count = subst (λ (why : ReadFault). CountsRead {T = Finding} 0 0 (Err why)) c.in-Err-Device.field-0-is c.in-Err-Device.ensures.count in
    let some = risen_some 0 0 count in
    omega (arith, some)
