-- Which texts are layouts, and why the others are none.
use Rattle.std.specs.Prelude.{◌≡◌, ℕ, ◌<◌, ⊤, Option, Some, None, Result, Ok, Err, List, [], filter_map, take, slice_index_or}
use Rattle.std.specs.Result.{result_unwrap_or, result_err}
use Rattle.nor_layout.specs.declared.cause.Cause.{Cause}
use Rattle.nor_layout.specs.declared.fault.LayoutFault.{LayoutFault}
use Rattle.nor_layout.specs.declared.fault.LayoutFault.TheVariants.{Memory}
use Rattle.nor_layout.specs.Cause.{fault_of}
use Rattle.nor_lines.specs.Lines.{filled_lines}
use Rattle.nor_layout.specs.Region.{Region}
use Rattle.nor_layout.specs.Line.{line_says, line_below}

-- the regions that numbered lines spell, in their order
abbrev pub regions_of : List (ℕ × List ℕ) → List Region
regions_of lines = filter_map (λ line. result_unwrap_or (line_says line.1) None) lines

-- the numbered line with this many of the lines above it
abbrev pub line_at : List (ℕ × List ℕ) → ℕ → ℕ × List ℕ
line_at lines above = slice_index_or lines above (0, [])

-- the first cause of the line with this many of the lines above it
abbrev pub cause_at : List (ℕ × List ℕ) → ℕ → Option Cause
cause_at lines above = result_err (line_below (regions_of (take above lines)) (line_at lines above).1)

-- the text is a layout with these regions, in the order of their lines: of the lines that aren't blank none has a cause
pub record IsLayout (text : List ℕ) (regions : List Region) : Type 0 where
  pub spelled : regions ≡ regions_of (filled_lines text)
  pub sound : (above : ℕ) → cause_at (filled_lines text) above ≡ None

-- the fault tells the number of the first line of the text that has a cause, and that line's first cause
pub record IsFirstFault (text : List ℕ) (fault : LayoutFault) : Type 0 where
  pub above : ℕ
  pub cause : Cause
  pub here : cause_at (filled_lines text) above ≡ Some cause
  pub none_above : (line : ℕ) → line < above → cause_at (filled_lines text) line ≡ None
  pub told : fault ≡ fault_of cause (line_at (filled_lines text) above).0

-- what a refusal says of the text
abbrev pub Refuses : List ℕ → LayoutFault → Type 0
Refuses text Memory = ⊤
Refuses text fault = IsFirstFault text fault
