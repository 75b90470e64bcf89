use Rattle.std.proofs.Common.{◌≡◌, ◌+◌, ◌-◌, ◌++◌, length}
use Rattle.std.specs.List.{range_with_len}
use Rattle.nor_pages.specs.Runs.{runs_on, closed_at, differs_at, page_runs, reaches_back}
use Rattle.nor_pages.proofs.splitter.push_page.Given as goal

-- the runs so far, and those of the addresses left, into which the last may go on
abbrev pub invariant-loop-i : goal.invariant-loop-i
invariant-loop-i g l = record {
  back : reaches_back l.run (l.at + l.i);
  whole : l.runs.items
      ++ runs_on (closed_at l.blank l.erased_only l.have l.at) (differs_at l.blank l.have l.want l.at) l.run (range_with_len (l.at + l.i) (length l.want - l.i))
      ≡ l.fn.runs.items ++ page_runs l.blank l.erased_only l.have l.want l.at;
}
