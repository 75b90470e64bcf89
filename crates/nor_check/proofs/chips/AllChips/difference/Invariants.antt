-- None differs so far.
use Rattle.std.proofs.Common.{◌≡◌, ℕ, ◌<◌, slice_index}
use Rattle.nor_check.proofs.chips.AllChips.difference.Given as goal

abbrev pub invariant-loop-address : goal.invariant-loop-address
invariant-loop-address l = (a : ℕ) → a < l.address → slice_index l.self.chips.array a ≡ slice_index l.target a
