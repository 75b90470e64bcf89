-- How often a port is asked for a transaction.
use Rattle.std.specs.Prelude.{ℕ, ◌+◌}

-- however often it had been asked, it has been asked so many times more
abbrev pub AsksMore : (ℕ → Type 0) → (ℕ → Type 0) → ℕ → Type 0
AsksMore before after count = (asked : ℕ) → before asked → after (asked + count)
