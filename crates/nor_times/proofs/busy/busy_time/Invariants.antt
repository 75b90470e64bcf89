-- The sums over the lines so far, which fit.
use Rattle.std.proofs.Common.{◌≡◌, ◌≤◌, ◌*◌, ◌^◌, take}
use Rattle.std.specs.Prelude.{count_by, sum_by}
use Rattle.nor_times.specs.Bus.{is_work}
use Rattle.nor_times.specs.Busy.{typical_of, worst_of}
use Rattle.nor_times.proofs.busy.busy_time.Given as goal

abbrev pub invariant-loop-line : goal.invariant-loop-line
invariant-loop-line l = record {
  typical : l.typical ≡ sum_by (typical_of l.times l.meaning) (take l.line-index l.lines);
  worst : l.worst ≡ sum_by (worst_of l.times l.meaning) (take l.line-index l.lines);
  typical_fits : l.typical ≤ count_by is_work (take l.line-index l.lines) * 2 ^ 64;
  worst_fits : l.worst ≤ count_by is_work (take l.line-index l.lines) * 2 ^ 64;
}
