-- The end after the lines to come.
use Rattle.std.proofs.Common.{◌≡◌, drop}
use Rattle.nor_times.specs.Bus.{end_after}
use Rattle.nor_times.proofs.bus.end_after.Given as goal

abbrev pub invariant-loop-line : goal.invariant-loop-line
invariant-loop-line l = end_after l.end (drop l.line-index l.lines) ≡ end_after l.fn.end l.lines
