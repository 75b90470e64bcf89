-- The plan is told, or why not.
use Rattle.std.proofs.Common.{◌∙◌, inl, inr, refl}
use Rattle.nor_base.proofs.FaultLaws.{handed_on}
use Rattle.nor_job.specs.Job.{IsJob}
use Rattle.norprog_plan.specs.Outline.{tables_times}
use Rattle.norprog_plan.proofs.OutlineLemmas.{only_memory, reads_none, tells, writes_none}
use Rattle.norprog_plan.proofs.outline.tell.Goals as goal

pub returns-clause-told : goal.returns-clause-told
returns-clause-told g c =
    let t = c.args.inputs.now in
    let is : IsJob t c.args.len c.in_ok-job.job = c.in_ok-job.ensures.job in
    let all = c.in_ok-report.ensures.printed in
    let are = all.sums (tables_times t.chip) c.in_ok-sums.ensures.sums in
    tells c.args.shows t c.args.len (g.R.ByteIn.ahead c.args.content.now) (g.R.ByteIn.ahead c.print_lines.new.content) (g.O.ByteOut.held c.args.out.now)
    (g.O.ByteOut.held c.print_lines.new.out) c.in_ok-job.job c.in_ok-sums.sums c.print_lines.new.sums c.in_ok-report.report _ c.behind.result all is
    (c.in_ok-report.ensures.counts.2 ∙ c.in_ok-sums.ensures.drawn) (c.behind.ensures.rest c.args.len all.lines is are) (c.behind.ensures.picture c.args.len all.lines is are)

-- memory may run out after all lines as anywhere in them
pub returns-clause-refused : goal.returns-clause-refused
returns-clause-refused g c =
    let t = c.args.inputs.now in
    let is : IsJob t c.args.len c.in_ok-job.job = c.in_ok-job.ensures.job in
    only_memory _ _ c.behind.result c.behind.ensures.refused
    (c.planned_lines.ensures.inputs t c.args.len c.in_ok-job.job _ _ _ _ _ is c.in_ok-report.ensures.memory)

pub returns-clause-counts : goal.returns-clause-counts
returns-clause-counts g c = (
  reads_none c.behind.result _ _ c.behind.ensures.refused c.in_ok-report.ensures.counts.0,
  writes_none c.behind.result _ _ c.behind.ensures.refused c.in_ok-report.ensures.counts.1,
)

pub returns-in_err-report-clause-refused : goal.returns-in_err-report-clause-refused
returns-in_err-report-clause-refused g c =
    let t = c.args.inputs.now in
    let is : IsJob t c.args.len c.in_ok-job.job = c.in_ok-job.ensures.job in
    handed_on _ _ _ c.from_residual-in_err-report.ensures.1
    (inr (c.planned_lines.ensures.inputs t c.args.len c.in_ok-job.job _ _ _ _ _ is c.in_err-report.ensures.cut))

pub returns-in_err-sums-clause-refused : goal.returns-in_err-sums-clause-refused
returns-in_err-sums-clause-refused g c =
    handed_on _ _ _ c.from_residual-in_err-sums.ensures.1 (inl (c.in_ok-job.ensures.job.accepted.named.imaged.consistent, refl, refl))
