-- The requests of the steps so far.
use Rattle.std.proofs.Common.{take}
use Rattle.nor_serprog.specs.Row.{AreSent}
use Rattle.nor_serprog.proofs.row.gathered.Given as goal

abbrev pub invariant-loop-step : goal.invariant-loop-step
invariant-loop-step l = AreSent l.limits (take l.step-index l.steps) l.requests.items
