use Rattle.std.proofs.Common.{◌≡◌, ◌≤◌, ◌-◌}
use Rattle.nor_layout.specs.Chosen.{has}
use Rattle.nor_target.specs.Ignored.{ignored_below}
use Rattle.nor_target.proofs.ignored.Given as goal

abbrev pub decreases-loop-begin : goal.decreases-loop-begin
decreases-loop-begin l = l.size - l.done

-- so many addresses have no chosen address below `done`
abbrev pub invariant-loop-begin : goal.invariant-loop-begin
invariant-loop-begin l = record {
  within : l.done ≤ l.size;
  counted : l.left ≡ ignored_below l.image l.base (has l.chosen) l.done;
}
