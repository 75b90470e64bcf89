use Rattle.std.proofs.Common.{◌≡◌, ◌+◌, ◌-◌, ℕ, false, None, length}
use Rattle.nor_pages.specs.Runs.{differs_at, page_runs, open_runs}
use Rattle.nor_pages.proofs.splitter.first_differing.Given as goal

-- no byte so far has to change
abbrev pub invariant-loop-i : goal.invariant-loop-i
invariant-loop-i l = (at : ℕ) → page_runs l.blank false l.have l.want at ≡ open_runs (differs_at l.blank l.have l.want at) None (at + l.i) (length l.want - l.i)
