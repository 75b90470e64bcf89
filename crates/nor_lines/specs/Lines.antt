-- The lines of a text. No standard speaks of them, so these rules are our own.
use Rattle.std.specs.Prelude.{ℕ, ◌-◌, ◌==◌, ◌||◌, Bool, nat_lt, List, length, take, drop, map}
use Rattle.std.specs.List.{prefix_len, suffix_len, filter, enumerate_from}
use Rattle.bstr.specs.Text.{lines_of, without_terminator}

-- a space, a tab or a carriage return
abbrev pub is_blank : ℕ → Bool
is_blank byte = (byte == 32) || (byte == 9) || (byte == 13)

-- a line from its first byte that is no blank on
abbrev pub without_first_blanks : List ℕ → List ℕ
without_first_blanks line = drop (prefix_len is_blank line) line

-- a line without the blanks at its end
abbrev pub trimmed : List ℕ → List ℕ
trimmed line = take (length line - suffix_len is_blank line) line

-- the lines of a text: a line feed ends a line, and one at the text's end starts no further line
abbrev pub lines_of_text : List ℕ → List (List ℕ)
lines_of_text text = map without_terminator (lines_of text)

-- lines with their numbers, the first of them n, trimmed, and without those of which nothing is left
abbrev pub filled_from : ℕ → List (List ℕ) → List (ℕ × List ℕ)
filled_from n lines = filter (λ line. nat_lt 0 (length line.1)) (enumerate_from n (map trimmed lines))

-- the lines of a text that aren't blank, counted from 1 with those that are
abbrev pub filled_lines : List ℕ → List (ℕ × List ℕ)
filled_lines text = filled_from 1 (lines_of_text text)
