-- What was looked through so far is alike.
use Rattle.norprog_flash.proofs.SpanLemmas.{AreAlikeBelow}
use Rattle.norprog_flash.proofs.compared.first_difference.Given as goal

abbrev pub invariant-loop-place : goal.invariant-loop-place
invariant-loop-place l = AreAlikeBelow l.one l.other l.place
