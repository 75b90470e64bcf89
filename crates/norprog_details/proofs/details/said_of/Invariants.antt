-- Only files of the options were looked at so far.
use Rattle.norprog_details.specs.Details.{LooksAgain}
use Rattle.norprog_files.specs.Files.{Did}
use Rattle.norprog_details.proofs.details.said_of.Given as goal

abbrev pub invariant-loop-option : goal.invariant-loop-option
invariant-loop-option g l = Did (g.F.Trail.Trail.did l.fn.trail) (g.F.Trail.Trail.did l.trail) (LooksAgain l.line.typed.now)
