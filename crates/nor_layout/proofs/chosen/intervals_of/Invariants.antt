use Rattle.std.proofs.Common.{ℕ, ◌≡◌, take}
use Rattle.nor_layout.specs.Chosen.{lies_in, lies_in_named}
use Rattle.nor_layout.proofs.chosen.intervals_of.Given as goal

-- the intervals so far are those of the named regions so far
abbrev pub invariant-loop-region : goal.invariant-loop-region
invariant-loop-region l = (a : ℕ) → lies_in l.intervals.items a ≡ lies_in_named (take l.region-index l.regions) l.names a
