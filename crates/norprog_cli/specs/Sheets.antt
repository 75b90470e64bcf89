-- The sheets that were installed with the program, by their names (this project's).
use Rattle.std.specs.Prelude.{ℕ, List, slice_set}

-- the words are the same, except for at most one
pub data NamesSheet {S : Type 0} (words : List S) : List S → Type 0 where
  AsTyped : NamesSheet words words
  AsInstalled : (k : ℕ) (word : S) → NamesSheet words (slice_set words k word)
