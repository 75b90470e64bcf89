-- The lines of the windows so far are put.
use Rattle.std.proofs.Common.{◌≡◌, ◌-◌, List, Option, ℕ}
use Rattle.std.specs.Io.KnownBytes.{Appends}
use Rattle.nor_base.specs.Device.{Ahead}
use Rattle.nor_outline.specs.Lines.{lines_text}
use Rattle.nor_outline.specs.declared.line.PlanLine.{PlanLine}
use Rattle.norprog.specs.Planner.{IsReady, HasTold}
use Rattle.norprog.proofs.lines.put_plan.Given as goal

abbrev pub invariant-loop-lines : goal.invariant-loop-lines
invariant-loop-lines g l = record {
  ready : IsReady l.planner;
  job : l.planner.job ≡ l.fn.planner.job;
  put : (first : Ahead) (told : List PlanLine) (x : Option (List ℕ)) → HasTold l.fn.planner first (g.R.ByteIn.ahead l.fn.content) told
      → Appends x (g.W.ByteOut.held l.fn.out) (lines_text told)
      → (lines : List PlanLine) × HasTold l.planner first (g.R.ByteIn.ahead l.content) lines × Appends x (g.W.ByteOut.held l.out) (lines_text lines);
  reads : g.R.ByteIn.count l.content ≡ g.R.ByteIn.count l.fn.content;
  writes : g.W.ByteOut.count l.out ≡ g.W.ByteOut.count l.fn.out;
}

abbrev pub decreases-loop-lines : goal.decreases-loop-lines
decreases-loop-lines g l = l.planner.job.meaning.size - l.planner.at
