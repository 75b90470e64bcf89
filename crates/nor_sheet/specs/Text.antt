-- Which texts are sheets, of which meanings, and why the others are none (this project's).
use Rattle.std.specs.Prelude.{◌≡◌, ℕ, ◌<◌, Option, Some, None, Result, Ok, Err, List, [], filter_map, take, slice_index_or}
use Rattle.std.specs.Result.{result_unwrap_or, result_err}
use Rattle.nor_base.specs.Parameters.{Parameters}
use Rattle.nor_lines.specs.Lines.{filled_lines}
use Rattle.nor_sheet.specs.declared.fault.LineFault.{LineFault}
use Rattle.nor_sheet.specs.declared.fault.Lack.{Lack}
use Rattle.nor_sheet.specs.declared.fault.SheetFault.{SheetFault}
use Rattle.nor_sheet.specs.declared.fault.SheetFault.TheVariants.{Line, Whole}
use Rattle.nor_sheet.specs.declared.said.Said.{Said}
use Rattle.nor_sheet.specs.Line.{line_says}
use Rattle.nor_sheet.specs.Sheet.{Sheet, sheet_of, with}
use Rattle.nor_sheet.specs.Meaning.{meaning_of}

-- what numbered lines say, in their order
abbrev pub statements : List (ℕ × List ℕ) → List Said
statements lines = filter_map (λ line. result_unwrap_or (line_says line.1) None) lines

-- a sheet, and what a line below it says too, if it says something
abbrev pub said_below : Sheet → Result (Option Said) LineFault → Result Sheet LineFault
said_below s (Ok None) = Ok s
said_below s (Ok (Some said)) = with s said
said_below s (Err fault) = Err fault

-- the numbered line with this many of the lines above it
abbrev pub line_at : List (ℕ × List ℕ) → ℕ → ℕ × List ℕ
line_at lines above = slice_index_or lines above (0, [])

-- the fault of the line with this many of the lines above it
abbrev pub fault_at : List (ℕ × List ℕ) → ℕ → Option LineFault
fault_at lines above = result_err (said_below (sheet_of (statements (take above lines))) (line_says (line_at lines above).1))

-- no line is at fault
abbrev pub IsSound : List ℕ → Type 0
IsSound text = (above : ℕ) → fault_at (filled_lines text) above ≡ None

-- what the lines of a text mean together
abbrev pub text_means : List ℕ → Result Parameters Lack
text_means text = meaning_of (sheet_of (statements (filled_lines text)))

-- the text is a sheet of this meaning
pub record IsSheet (text : List ℕ) (m : Parameters) : Type 0 where
  pub sound : IsSound text
  pub means : text_means text ≡ Ok m

-- the first line at fault has this number and this fault
pub record IsFirstFault (text : List ℕ) (number : ℕ) (fault : LineFault) : Type 0 where
  pub above : ℕ
  pub here : fault_at (filled_lines text) above ≡ Some fault
  pub none_above : (line : ℕ) → line < above → fault_at (filled_lines text) line ≡ None
  pub told : number ≡ (line_at (filled_lines text) above).0

-- no line is at fault, and this is the first thing that the whole lacks
pub record IsLacking (text : List ℕ) (lack : Lack) : Type 0 where
  pub sound : IsSound text
  pub lacks : text_means text ≡ Err lack

-- what a refusal says of the text
abbrev pub Refuses : List ℕ → SheetFault → Type 0
Refuses text (Line number fault) = IsFirstFault text number fault
Refuses text (Whole lack) = IsLacking text lack

-- a line's fault with its number
abbrev pub numbered : ℕ → Result Sheet LineFault → Result Sheet SheetFault
numbered number (Ok s) = Ok s
numbered number (Err fault) = Err (Line number fault)

-- a fault of the whole
abbrev pub of_whole : Result Parameters Lack → Result Parameters SheetFault
of_whole (Ok m) = Ok m
of_whole (Err lack) = Err (Whole lack)
