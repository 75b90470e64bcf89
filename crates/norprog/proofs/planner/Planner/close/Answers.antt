-- The steps that leave the mode are counted as well.
use Rattle.std.proofs.Common.{◌≡◌, ◌+◌, length, sym, ◌∙◌, ap, subst}
use Rattle.nor_select.specs.Streamed.{last}
use Rattle.norprog.specs.Planner.{Planning, CutsPlan, EndsPlan}
use Rattle.norprog.specs.Windows.{job_report, lifted_steps}
use Rattle.norprog.proofs.Promise.Plan.{close_uncounted, ends_plan}
use Rattle.norprog.proofs.planner.Planner.close.Goals as goal

pub returns-in-Err-clause-stopped : goal.returns-in-Err-clause-stopped
returns-in-Err-clause-stopped c = λ ahead.
    subst (CutsPlan c.args.self ahead ahead) (sym (c.lifted.ensures ∙ ap lifted_steps c.in-Err.ensures.why))
    (close_uncounted c.args.self ahead c.requires.ready c.requires.whole)

pub returns-clause-planned : goal.returns-clause-planned
returns-clause-planned c =
    let p = c.args.self in
    let more = c.in-Ok.last in
    let count = subst (λ (q : Planning). more ≡ length (last q.work.streaming)) c.self.view_is c.in-Ok.ensures.steps in
    subst (EndsPlan p) (sym c.report_of.ensures)
    (subst (λ (q : Planning). EndsPlan p (job_report q.job (record { steps = q.told.steps + more; erases = q.told.erases; erased = q.told.erased; programs = q.told.programs })))
    (sym c.self.view_is) (ends_plan p more c.there_is_planned_work.ensures.spelled c.spelling.ensures.has c.requires.ready c.requires.whole count))
