-- The records of a text.
use Rattle.std.specs.Prelude.{ℕ, Bool, if◌then◌else◌, List, [], ◌∷◌, map, Result, Ok, Err}
use Rattle.nor_hex.specs.declared.fault.HexFault.{HexFault}
use Rattle.nor_lines.specs.Lines.{filled_lines}
use Rattle.nor_hex.specs.Record.{Record, record_of}

-- the record that a numbered line is, or why it is none
abbrev pub record_at : ℕ × List ℕ → Result Record HexFault
record_at line = record_of line.0 line.1

-- the items up to the first fault, and that one
abbrev pub up_to_fault : List (Result Record HexFault) → List (Result Record HexFault)
up_to_fault [] = []
up_to_fault (Ok line ∷ items) = Ok line ∷ up_to_fault items
up_to_fault (Err fault ∷ items) = Err fault ∷ []

-- what each line that isn't blank is
abbrev pub line_records : List ℕ → List (Result Record HexFault)
line_records text = map record_at (filled_lines text)

-- the records of the text in their order, up to the first line that is none
abbrev pub records_of : List ℕ → List (Result Record HexFault)
records_of text = up_to_fault (line_records text)

-- what is left to give of lines that are left
abbrev pub records_left : Bool → List (ℕ × List ℕ) → List (Result Record HexFault)
records_left ended lines = if ended then [] else up_to_fault (map record_at lines)
