-- What one line of a script is refused for (this project's format).
use Rattle.std.specs.Prelude.{◌≡◌, ℕ, Bool, ◌+◌, ◌%◌, ◌==◌, nat_le, not, ◌&&◌, ◌||◌, if◌then◌else◌, List, [], ◌∷◌, ◌++◌, length, take, drop, codes, decimal, count_by, Option, Some, None}
use Rattle.std.specs.List.{list_all, before_first, after_first}
use Rattle.std.specs.Str.{bytes_eq}
use Rattle.nor_base.specs.declared.step.Step.{Step}
use Rattle.nor_base.specs.Sample.{is_symbol}
use Rattle.nor_base.specs.Array.{is_filled}
use Rattle.nor_base.specs.Step.{IsStep}
use Rattle.nor_base.specs.Script.{step_line}
use Rattle.nor_script.specs.declared.fault.ScriptFault.{ScriptFault}
use Rattle.nor_script.specs.declared.fault.ScriptFault.TheVariants.{BadLine, BadSymbol, BadCount}

-- the clocks of line n: there are some, and each is a symbol
abbrev pub clocks_fault : ℕ → List ℕ → Option ScriptFault
clocks_fault n clocks =
    if not (is_filled clocks) then Some (BadLine n)
    else if not (list_all is_symbol clocks) then Some (BadSymbol n)
    else None

abbrev pub is_blank : ℕ → Bool
is_blank byte = byte == 0x20

-- two parts, neither of them empty, with one blank between them
abbrev pub are_two_parts : List ℕ → Bool
are_two_parts rest = (count_by is_blank rest == 1) && (is_filled (before_first is_blank rest) && is_filled (after_first is_blank rest))

-- `0` to `9`, `a` to `f`
abbrev pub is_lower_digit : ℕ → Bool
is_lower_digit byte = (nat_le 0x30 byte && nat_le byte 0x39) || (nat_le 0x61 byte && nat_le byte 0x66)

-- pairs of lower-case hexadecimal digits
abbrev pub are_pairs : List ℕ → Bool
are_pairs digits = (length digits % 2 == 0) && list_all is_lower_digit digits

-- what stands behind `v ` on line n: clocks, a blank, digits; a symbol is asked for before the digits are looked at
abbrev pub verify_fault : ℕ → List ℕ → Option ScriptFault
verify_fault n rest =
    if not (are_two_parts rest) then Some (BadLine n)
    else if not (list_all is_symbol (before_first is_blank rest)) then Some (BadSymbol n)
    else if not (are_pairs (after_first is_blank rest)) then Some (BadLine n)
    else None

-- line n, which is no end line: `x CLOCKS`, `p CLOCKS` or `v CLOCKS HEX`
abbrev pub step_fault : ℕ → List ℕ → Option ScriptFault
step_fault n [] = Some (BadLine n)
step_fault n (letter ∷ []) = Some (BadLine n)
step_fault n (letter ∷ blank ∷ rest) =
    if not (is_blank blank) then Some (BadLine n)
    else if letter == 0x78 || letter == 0x70 then clocks_fault n rest
    else if letter == 0x76 then verify_fault n rest
    else Some (BadLine n)

-- the line begins with `end `
abbrev pub is_end : List ℕ → Bool
is_end line = bytes_eq (take 4 line) (codes "end ")

-- what stands behind `end ` on the line after so many steps: their number in decimal, without leading zeros
abbrev pub count_fault : ℕ → List ℕ → Option ScriptFault
count_fault steps count = if bytes_eq count (decimal steps) then None else Some (BadCount (steps + 2))

-- a line, without its LF, after the header and so many steps, each on a line
abbrev pub line_fault : ℕ → List ℕ → Option ScriptFault
line_fault steps line = if is_end line then count_fault steps (drop 4 line) else step_fault (steps + 2) line

-- the line is that of the step
pub record SpellsStep (line : List ℕ) (step : Step) : Type 0 where
  pub is_one : IsStep step
  pub spelled : line ≡ step_line step

-- what stands behind `v ` is that of the Verify
pub record SpellsVerify (rest : List ℕ) (step : Step) : Type 0 where
  pub is_one : IsStep step
  pub spelled : codes "v " ++ rest ≡ step_line step
