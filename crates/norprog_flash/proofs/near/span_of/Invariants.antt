-- The pieces so far lie between these.
use Rattle.std.proofs.Common.{◌-◌, ◌^◌}
use Rattle.nor_layout.specs.Chosen.{has}
use Rattle.norprog_flash.specs.Near.{Gets}
use Rattle.norprog_flash.proofs.NearLemmas.{SpansSoFar}
use Rattle.norprog_flash.proofs.near.span_of.Given as goal

abbrev pub invariant-loop-begin : goal.invariant-loop-begin
invariant-loop-begin l = SpansSoFar (Gets l.image l.base (has l.chosen)) l.low l.high l.done

abbrev pub decreases-loop-begin : goal.decreases-loop-begin
decreases-loop-begin l = 2 ^ 32 - l.done
