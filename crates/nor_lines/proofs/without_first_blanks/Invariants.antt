use Rattle.std.proofs.Common.{◌≡◌, length}
use Rattle.nor_lines.specs.Lines.{without_first_blanks}
use Rattle.nor_lines.proofs.without_first_blanks.Given as goal

-- what is dropped so far are blanks
abbrev pub invariant-loop-rest : goal.invariant-loop-rest
invariant-loop-rest l = without_first_blanks l.rest ≡ without_first_blanks l.fn.line

abbrev pub decreases-loop-rest : goal.decreases-loop-rest
decreases-loop-rest l = length l.rest
