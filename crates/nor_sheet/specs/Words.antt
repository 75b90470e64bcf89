-- The words of a sheet's line (this project's).
use Rattle.std.specs.Prelude.{ℕ, Bool, ◌==◌, nat_le, if◌then◌else◌, Option, Some, None, List, length, filter}
use Rattle.std.specs.List.{slice_split, before_first, after_first}
use Rattle.nor_base.specs.Array.{is_filled}
use Rattle.nor_lines.specs.Lines.{is_blank, without_first_blanks}

abbrev pub is_hash : ℕ → Bool
is_hash byte = byte == 0x23

-- what blanks part, without the empty parts
abbrev pub split : List ℕ → List (List ℕ)
split text = filter is_filled (slice_split is_blank text)

-- a comment begins with `#`; what is before it are the words
abbrev pub words_of : List ℕ → List (List ℕ)
words_of line = split (before_first is_hash line)

-- the list, where it has no more than so many items
abbrev pub at_most : ℕ → List (List ℕ) → Option (List (List ℕ))
at_most n items = if nat_le (length items) n then Some items else None

-- the first word, and what is after it
abbrev pub cut_at_blank : List ℕ → Option (List ℕ × List ℕ)
cut_at_blank text = if is_filled text then Some (before_first is_blank text, after_first is_blank text) else None

abbrev pub word_on : List ℕ → Option (List ℕ × List ℕ)
word_on text = cut_at_blank (without_first_blanks text)
