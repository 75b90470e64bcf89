-- The times stand behind the report.
use Rattle.std.proofs.Common.{rules, ◌≡◌, true}
use Rattle.nor_base.proofs.DeviceLaws.{Writes-then}
use Rattle.nor_job.specs.Status.{start_of}
use Rattle.norprog_plan.specs.Outline.{tables_times}
use Rattle.norprog_plan.proofs.outline.put_report.Goals as goal

pub returns-then-shown-clause-bytes : goal.returns-then-shown-clause-bytes
returns-then-shown-clause-bytes g c t m lines are =
    let asked : c.args.shown ≡ true = search rules in
    rw asked (Writes-then _ _ _ _ _ _ c.in_ok-write_report.ensures.bytes (c.write.ensures.bytes m (start_of t) t.verify (tables_times t.chip) lines are))
