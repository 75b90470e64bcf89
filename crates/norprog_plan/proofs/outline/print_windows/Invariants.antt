-- The lines of the windows so far were printed and added up.
use Rattle.std.proofs.Common.{◌≡◌, ◌-◌, is_some}
use Rattle.nor_job.specs.Written.{passed}
use Rattle.norprog.specs.Planner.{IsReady}
use Rattle.norprog_plan.specs.Sums.{HasPrinted}
use Rattle.norprog_plan.proofs.outline.print_windows.Given as goal

abbrev pub invariant-loop-lines : goal.invariant-loop-lines
invariant-loop-lines g l = record {
  ready : IsReady l.planner;
  job : l.planner.job ≡ l.fn.planner.job;
  printed : HasPrinted l.planner l.fn.sums l.sums
      (passed (g.R.ByteIn.ahead l.fn.content) (g.R.ByteIn.ahead l.content) (g.O.ByteOut.held l.fn.out) (g.O.ByteOut.held l.out));
  reads : g.R.ByteIn.count l.content ≡ g.R.ByteIn.count l.fn.content;
  writes : g.O.ByteOut.count l.out ≡ g.O.ByteOut.count l.fn.out;
  marks : is_some l.sums.marks ≡ is_some l.fn.sums.marks;
}

abbrev pub decreases-loop-lines : goal.decreases-loop-lines
decreases-loop-lines g l = l.planner.job.meaning.size - l.planner.at
