use Rattle.std.proofs.Common.{◌≡◌, length}
use Rattle.nor_lines.specs.Lines.{trimmed}
use Rattle.nor_log.proofs.text.without_last_blanks.Given as goal

-- what is dropped so far are blanks
abbrev pub invariant-loop-rest : goal.invariant-loop-rest
invariant-loop-rest l = trimmed l.rest ≡ trimmed l.fn.text

abbrev pub decreases-loop-rest : goal.decreases-loop-rest
decreases-loop-rest l = length l.rest
