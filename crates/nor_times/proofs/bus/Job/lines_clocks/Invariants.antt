-- The clocks of the lines so far, and those of the lines to come.
use Rattle.std.proofs.Common.{◌≡◌, ◌+◌, ◌≤◌, ◌*◌, ◌^◌, take, drop}
use Rattle.std.specs.Prelude.{count_by}
use Rattle.nor_times.specs.Bus.{is_work, lines_clocks}
use Rattle.nor_times.proofs.bus.Job.lines_clocks.Given as goal

abbrev pub invariant-loop-line : goal.invariant-loop-line
invariant-loop-line l = record {
  whole : l.clocks + lines_clocks l.self l.end (drop l.line-index l.lines) ≡ lines_clocks l.self l.fn.end l.lines;
  fits : l.clocks ≤ count_by is_work (take l.line-index l.lines) * 2 ^ 50;
}
