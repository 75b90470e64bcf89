-- No piece so far is telling.
use Rattle.std.proofs.Common.{◌≤◌, ◌-◌, length}
use Rattle.nor_reader.proofs.TellingLemmas.{IsCutAt, NoneTells}
use Rattle.nor_reader.proofs.shows.shows_mode.Given as goal

abbrev pub invariant-loop-done : goal.invariant-loop-done
invariant-loop-done l = record {
  within : l.done ≤ length l.content;
  cut : IsCutAt l.limits.asked l.content l.done;
  none : NoneTells l.limits.asked l.content l.done;
}

abbrev pub decreases-loop-done : goal.decreases-loop-done
decreases-loop-done l = length l.content - l.done
