use Rattle.std.proofs.Common.{◌≡◌}
use Rattle.nor_pages.specs.Runs.{change, pages_runs}
use Rattle.nor_pages.proofs.splitter.split_pages.Given as goal

-- the runs of the pages so far
abbrev pub invariant-loop-number : goal.invariant-loop-number
invariant-loop-number g l = l.runs.items ≡ pages_runs l.meaning.erased_only l.meaning.page (change l.blank l.have l.want) l.start l.number
