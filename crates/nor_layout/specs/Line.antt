-- What a line of a layout says: `start:end name`, as flashrom's manual page has it.
use Rattle.std.specs.Prelude.{ℕ, Bool, true, ◌==◌, nat_le, if◌then◌else◌, Option, Some, None, Result, Ok, Err, List, [], ◌∷◌, length}
use Rattle.std.specs.List.{slice_split, list_any}
use Rattle.std.specs.Str.{bytes_eq}
use Rattle.nor_layout.specs.declared.cause.Cause.{Cause}
use Rattle.nor_layout.specs.declared.cause.Cause.TheVariants.{BadLine, BadNumber, EndBeforeStart, RepeatedName, TooMany}
use Rattle.nor_layout.specs.Region.{Region}
use Rattle.nor_layout.specs.Number.{number_of}
use Rattle.nor_layout.specs.Fields.{fields_of, exactly_two}
use Rattle.nor_lines.specs.Lines.{without_first_blanks}

-- the region between two numbers, if both are numbers
abbrev pub region_between : List ℕ → Option ℕ → Option ℕ → Result Region Cause
region_between name (Some start) (Some end) = if nat_le start end then Ok (record { start = start; end = end; name = name }) else Err EndBeforeStart
region_between name first last = Err BadNumber

-- the region of what stands on either side of the colon, if there is exactly one colon
abbrev pub region_of_offsets : List ℕ → Option (List ℕ × List ℕ) → Result Region Cause
region_of_offsets name None = Err BadLine
region_of_offsets name (Some offsets) = region_between name (number_of offsets.0) (number_of offsets.1)

-- the region of the two fields, if there are exactly two
abbrev pub region_of_fields : Option (List ℕ × List ℕ) → Result Region Cause
region_of_fields None = Err BadLine
region_of_fields (Some fields) = region_of_offsets fields.1 (exactly_two (slice_split (λ byte. byte == 58) fields.0))

-- the region that a line spells which isn't skipped, or the first cause of those that the line alone has
abbrev pub region_in : List ℕ → Result Region Cause
region_in line = region_of_fields (exactly_two (fields_of line))

-- without the blanks before it a line is skipped where it is empty or begins with `#`
abbrev pub is_skipped : List ℕ → Bool
is_skipped [] = true
is_skipped (byte ∷ bytes) = byte == 35

abbrev pub or_none : Result Region Cause → Result (Option Region) Cause
or_none (Ok region) = Ok (Some region)
or_none (Err cause) = Err cause

-- what the line alone, without blanks at its end, says: nothing where it is skipped, a region, or a cause
abbrev pub line_says : List ℕ → Result (Option Region) Cause
line_says line = if is_skipped (without_first_blanks line) then Ok None else or_none (region_in (without_first_blanks line))

-- some region has this name, byte for byte
abbrev pub is_taken : List Region → List ℕ → Bool
is_taken regions name = list_any (λ region. bytes_eq region.name name) regions

-- what a line says below lines with these regions: a name stands once, and no more than 255 regions do
abbrev pub said_below : List Region → Result (Option Region) Cause → Result (Option Region) Cause
said_below above (Ok (Some region)) = if is_taken above region.name then Err RepeatedName else if nat_le 255 (length above) then Err TooMany else Ok (Some region)
said_below above said = said

abbrev pub line_below : List Region → List ℕ → Result (Option Region) Cause
line_below above line = said_below above (line_says line)
