-- What was looked through so far.
use Rattle.norprog_flash.proofs.SpanLemmas.{SpansSoFar}
use Rattle.norprog_flash.proofs.span.differing.Given as goal

abbrev pub invariant-loop-place : goal.invariant-loop-place
invariant-loop-place l = SpansSoFar l.one l.other l.low l.high l.place
