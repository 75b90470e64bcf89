use Rattle.std.proofs.Common.{◌≡◌, ◌≤◌, ◌+◌, ◌-◌, true}
use Rattle.nor_target.specs.Ignored.{ignored_below}
use Rattle.nor_target.proofs.given.Given as goal

abbrev pub decreases-loop-first : goal.decreases-loop-first
decreases-loop-first l = l.end - l.done

abbrev pub invariant-loop-first : goal.invariant-loop-first
invariant-loop-first l = record {
  from : l.begin ≤ l.done;
  to : l.done ≤ l.end;
  few : l.count ≤ l.done;
  counted : l.count + ignored_below l.image l.base (λ _. true) l.done ≡ ignored_below l.image l.base (λ _. true) l.begin;
}
