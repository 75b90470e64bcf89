-- The fields of a line.
use Rattle.std.specs.Prelude.{ℕ, Bool, ◌||◌, ◌==◌, Option, Some, None, List, [], ◌∷◌, filter}
use Rattle.std.specs.List.{slice_split}
use Rattle.nor_base.specs.Array.{is_filled}

-- a blank or a tab
abbrev pub is_separator : ℕ → Bool
is_separator byte = (byte == 32) || (byte == 9)

-- the parts between separators that aren't empty
abbrev pub fields_of : List ℕ → List (List ℕ)
fields_of line = filter is_filled (slice_split is_separator line)

-- the two lists, where there are exactly two
abbrev pub exactly_two : List (List ℕ) → Option (List ℕ × List ℕ)
exactly_two (first ∷ second ∷ []) = Some (first, second)
exactly_two others = None
