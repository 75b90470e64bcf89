-- The lines of a plan (this project's).
use Rattle.std.specs.Prelude.{ℕ, List, ◌++◌, codes, decimal, flat_map}
use Rattle.nor_base.specs.Script.{closed, hex_pair}
use Rattle.nor_script.specs.Hexadecimal.{hex_number}
use Rattle.nor_outline.specs.declared.line.PlanLine.{PlanLine}
use Rattle.nor_outline.specs.declared.line.PlanLine.TheVariants.{Erase, Because, Program}

-- the word of a line, with the blank behind it
abbrev pub word : PlanLine → List ℕ
word (Erase start size opcode) = codes "erase "
word (Because start cause) = codes "because "
word (Program start count) = codes "program "

-- what stands behind the word, the last of it ended so: numbers of eight hexadecimal digits, an opcode of two, a number of bytes
-- in decimal
abbrev pub tail_to : (List ℕ → List ℕ) → PlanLine → List ℕ
tail_to ends (Erase start size opcode) = hex_number start ++ (codes " " ++ (hex_number size ++ (codes " " ++ ends (hex_pair opcode))))
tail_to ends (Because start cause) = hex_number start ++ (codes " " ++ ends (hex_number cause))
tail_to ends (Program start count) = hex_number start ++ (codes " " ++ ends (decimal count))

abbrev pub tail : PlanLine → List ℕ
tail line = tail_to (λ last. last) line

-- a line without its LF: `erase SSSSSSSS ZZZZZZZZ OO`, `because SSSSSSSS AAAAAAAA`, `program SSSSSSSS n`
abbrev pub line_words : PlanLine → List ℕ
line_words line = word line ++ tail line

-- a line with its LF
abbrev pub line_text : PlanLine → List ℕ
line_text line = word line ++ tail_to closed line

-- the text of lines, each closed by LF
abbrev pub lines_text : List PlanLine → List ℕ
lines_text lines = flat_map (λ line. closed (line_words line)) lines
