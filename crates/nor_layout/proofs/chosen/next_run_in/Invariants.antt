use Rattle.std.proofs.Common.{MatchOption, take}
use Rattle.nor_layout.specs.Chosen.{lies_in, HasNoneChosen, IsChosenRun}
use Rattle.nor_layout.proofs.chosen.next_run_in.Given as goal

-- the run is the next of the intervals so far
abbrev pub invariant-loop-interval : goal.invariant-loop-interval
invariant-loop-interval l =
    MatchOption l.next (HasNoneChosen (lies_in (take l.interval-index l.intervals)) l.from)
    (λ run. IsChosenRun (lies_in (take l.interval-index l.intervals)) l.from run.0 run.1)
