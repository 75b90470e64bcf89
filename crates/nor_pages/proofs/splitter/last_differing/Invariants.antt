use Rattle.std.proofs.Common.{◌≡◌, ◌≤◌, ◌<◌, ◌+◌, ◌-◌, ℕ, false, Some, length}
use Rattle.nor_pages.specs.Runs.{differs_at, page_runs, open_runs}
use Rattle.nor_pages.proofs.splitter.last_differing.Given as goal

-- no byte behind this one has to change
abbrev pub invariant-loop-last : goal.invariant-loop-last
invariant-loop-last l = record {
  from : l.first ≤ l.last;
  upto : l.last < length l.want;
  so : (at : ℕ) → page_runs l.blank false l.have l.want at ≡ open_runs (differs_at l.blank l.have l.want at) (Some (record { at = at + l.first; len = 1 })) (at + (l.first + 1)) (l.last - l.first);
}

abbrev pub decreases-loop-last : goal.decreases-loop-last
decreases-loop-last l = l.last - l.first
