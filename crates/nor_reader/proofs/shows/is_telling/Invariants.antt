-- It has none of the periods so far.
use Rattle.std.proofs.Common.{◌≤◌, ◌<◌, ℕ, drop}
use Rattle.nor_reader.specs.Telling.{HasPeriod}
use Rattle.nor_reader.proofs.shows.is_telling.Given as goal

abbrev pub invariant-loop-period : goal.invariant-loop-period
invariant-loop-period l = record { none : (n : ℕ) → 255 ≤ n → n < l.period → HasPeriod n (drop 3 l.piece) → ⊥ }
