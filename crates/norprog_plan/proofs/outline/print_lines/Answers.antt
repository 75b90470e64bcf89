-- From the first window to the report.
use Rattle.norprog_plan.proofs.SumsLemmas.{prints_lines, cut_after, cuts_lines}
use Rattle.norprog_plan.proofs.outline.print_lines.Goals as goal

pub returns-clause-printed : goal.returns-clause-printed
returns-clause-printed g c =
    prints_lines c.in_ok-planner.planner c.print_windows.new.planner c.args.job.now c.args.sums.now c.print_windows.new.sums _ _ _ _ c.close.result c.in_ok-planner.ensures.job
    c.in_ok-print_windows.ensures.printed c.close.ensures.planned

pub returns-clause-cut : goal.returns-clause-cut
returns-clause-cut g c =
    cuts_lines c.in_ok-planner.planner c.print_windows.new.planner c.args.job.now c.args.sums.now c.print_windows.new.sums _ _ _ _ c.close.result c.in_ok-planner.ensures.job
    c.in_ok-print_windows.ensures.printed c.close.ensures.stopped

pub returns-clause-memory : goal.returns-clause-memory
returns-clause-memory g c =
    cut_after c.planned_lines.ensures.anywhere c.in_ok-planner.planner c.print_windows.new.planner c.args.job.now c.args.sums.now c.print_windows.new.sums _ _ _ _ c.close.result
    c.in_ok-planner.ensures.job c.in_ok-print_windows.ensures.printed
