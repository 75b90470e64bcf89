-- What was appended so far is the lines of the runs before this one.
use Rattle.std.proofs.Common.{◌≡◌, ◌++◌, take, map}
use Rattle.nor_outline.specs.Parts.{run_line}
use Rattle.nor_outline.proofs.unit.push_runs.Given as goal

abbrev pub invariant-loop-run : goal.invariant-loop-run
invariant-loop-run l = (l.lines.items ≡ l.fn.lines.items ++ map run_line (take l.run-index l.runs))
