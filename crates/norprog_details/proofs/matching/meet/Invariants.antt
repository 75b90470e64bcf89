-- What is left of both meets as both do.
use Rattle.std.proofs.Common.{◌≡◌, length}
use Rattle.norprog_details.specs.Matching.{meeting}
use Rattle.norprog_details.proofs.matching.meet.Given as goal

abbrev pub invariant-loop-words : goal.invariant-loop-words
invariant-loop-words l = meeting l.fn.words l.fn.argument ≡ meeting l.words l.argument

abbrev pub decreases-loop-words : goal.decreases-loop-words
decreases-loop-words l = length l.words
