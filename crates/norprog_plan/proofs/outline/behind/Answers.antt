-- The lines of the regions follow the report, and the picture is that of the marks.
use Rattle.std.proofs.Common.{◌≡◌, Bool, List, ℕ, subst}
use Rattle.nor_base.specs.declared.meaning.Start.{Start}
use Rattle.nor_job.specs.Status.{start_of}
use Rattle.nor_times.specs.Timing.{timing_of}
use Rattle.norprog_plan.specs.Outline.{tables_times}
use Rattle.norprog_plan.specs.Regions.{EndsWith}
use Rattle.norprog_plan.proofs.DrawnLemmas.{pictured}
use Rattle.norprog_plan.proofs.outline.behind.Goals as goal

pub returns-clause-rest : goal.returns-clause-rest
returns-clause-rest c len lines is are =
    let t = c.args.inputs.now in
    let job = c.args.job.now in
    let times = subst (λ (v : Bool). c.args.sums.now.times ≡ timing_of job.meaning (start_of t) v (tables_times t.chip) lines) is.verify
    (subst (λ (s : Start). c.args.sums.now.times ≡ timing_of job.meaning s job.verify (tables_times t.chip) lines) is.start are.times) in
    subst (λ (text : List ℕ). EndsWith c.args.shows.regions t len text c.in_ok-rest.rest.items) (c.in_ok-shown.ensures.rest t job.meaning lines times)
    (c.in_ok-rest.ensures.told len is)

pub returns-clause-picture : goal.returns-clause-picture
returns-clause-picture c len lines is are =
    pictured c.args.inputs.now len c.args.job.now lines c.in_ok-picture.picture.items c.args.sums.now.marks is are.marks c.in_ok-picture.ensures.drawn
