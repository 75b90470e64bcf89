-- The listing of a script: the chip and the address mode that it is read with, a line for each step, an end line with the number
-- of steps (this project's format). Each line is closed by one LF.
use Rattle.std.specs.Prelude.{ℕ, Bool, ◌+◌, if◌then◌else◌, List, [], ◌∷◌, ◌++◌, length, codes, decimal, flat_map, Option, Some, None}
use Rattle.std.specs.Str.{bytes_eq}
use Rattle.nor_base.specs.declared.instruction.What.{What}
use Rattle.nor_base.specs.declared.instruction.What.TheVariants as what
use Rattle.nor_base.specs.declared.step.Step.{Step}
use Rattle.nor_base.specs.declared.step.Step.TheVariants.{Send, Poll, Verify}
use Rattle.nor_base.specs.Parameters.{Parameters, block_size}
use Rattle.nor_base.specs.Decoding.{Instruction, decode, opcode}
use Rattle.nor_base.specs.Run.{poll_clocks, is_verify}
use Rattle.nor_base.specs.Script.{closed, hex_pair, step_line, end_line}
use Rattle.nor_base.specs.Spelling.{mode_by}
use Rattle.nor_script.specs.Hexadecimal.{hex_number}

-- ` AAAAAAAA`, ` n` and ` HEX`: an address or a size, a number of bytes, bytes
abbrev pub in_eight : ℕ → List ℕ
in_eight n = codes " " ++ hex_number n

abbrev pub counted : ℕ → List ℕ
counted n = codes " " ++ decimal n

abbrev pub spelled : List ℕ → List ℕ
spelled bytes = codes " " ++ flat_map hex_pair bytes

-- clocks that a chip takes, by what it sees in them: word, opcode, and what the instruction says; clocks of a known opcode in
-- another form than its row's: the step's line in a script
abbrev pub sent_words : Parameters → List ℕ → Instruction → What → List ℕ
sent_words m clocks i what.Enable = codes "enable " ++ hex_pair (opcode clocks)
sent_words m clocks i what.Disable = codes "disable " ++ hex_pair (opcode clocks)
sent_words m clocks i what.Status = codes "status " ++ (hex_pair (opcode clocks) ++ counted i.asked)
sent_words m clocks i what.Enter = codes "enter " ++ hex_pair (opcode clocks)
sent_words m clocks i what.Leave = codes "leave " ++ hex_pair (opcode clocks)
sent_words m clocks i (what.Erase kind) =
    codes "erase " ++ (hex_pair (opcode clocks) ++ (in_eight i.address ++ in_eight (block_size m kind)))
sent_words m clocks i what.Program =
    codes "program " ++ (hex_pair (opcode clocks) ++ (in_eight i.address ++ (counted (length i.sent) ++ spelled i.sent)))
sent_words m clocks i what.QuadProgram =
    codes "quadprogram " ++ (hex_pair (opcode clocks) ++ (in_eight i.address ++ (counted (length i.sent) ++ spelled i.sent)))
sent_words m clocks i what.Read = codes "read " ++ (hex_pair (opcode clocks) ++ (in_eight i.address ++ counted i.asked))
sent_words m clocks i what.QuadRead = codes "quadread " ++ (hex_pair (opcode clocks) ++ (in_eight i.address ++ counted i.asked))
sent_words m clocks i what.Broken = codes "broken " ++ step_line (Send clocks)

-- clocks without an opcode that the chip knows: the step's line in a script
abbrev pub send_words : Parameters → List ℕ → Option Instruction → List ℕ
send_words m clocks None = codes "unknown " ++ step_line (Send clocks)
send_words m clocks (Some i) = sent_words m clocks i i.what

-- clocks that are to read the bytes expected, by what a chip sees in them; nothing but a read may verify
abbrev pub read_words : List ℕ → List ℕ → Instruction → What → List ℕ
read_words clocks expect i what.Read =
    codes "verify " ++ (hex_pair (opcode clocks) ++ (in_eight i.address ++ (counted i.asked ++ spelled expect)))
read_words clocks expect i what.QuadRead =
    codes "quadverify " ++ (hex_pair (opcode clocks) ++ (in_eight i.address ++ (counted i.asked ++ spelled expect)))
read_words clocks expect i what.Broken = codes "broken " ++ step_line (Verify clocks expect)
read_words clocks expect i other = codes "unknown " ++ step_line (Verify clocks expect)

abbrev pub verify_words : List ℕ → List ℕ → Option Instruction → List ℕ
verify_words clocks expect None = codes "unknown " ++ step_line (Verify clocks expect)
verify_words clocks expect (Some i) = read_words clocks expect i i.what

-- a step, on a chip in an address mode; a poll or a verify whose clocks it may not have is unknown
unfoldable pub words : Parameters → Bool → Step → List ℕ
words m mode4 (Send clocks) = send_words m clocks (decode m mode4 clocks)
words m mode4 (Poll clocks) = if bytes_eq clocks poll_clocks then codes "poll 05" else codes "unknown " ++ step_line (Poll clocks)
words m mode4 (Verify clocks expect) = verify_words clocks expect (if is_verify clocks then decode m mode4 clocks else None)

-- the address mode after a step: only clocks that are sent may switch it
unfoldable pub mode_past : Parameters → Bool → Step → Bool
mode_past m mode4 (Send clocks) = mode_by mode4 (decode m mode4 clocks)
mode_past m mode4 (Poll clocks) = mode4
mode_past m mode4 (Verify clocks expect) = mode4

-- `N WORDS`: the step with its number
unfoldable pub line : Parameters → ℕ → Bool → Step → List ℕ
line m n mode4 x = closed (decimal n ++ (codes " " ++ words m mode4 x))

-- the steps from a number and an address mode on
unfoldable pub lines_from : Parameters → ℕ → Bool → List Step → List ℕ
lines_from m n mode4 [] = []
lines_from m n mode4 (x ∷ xs) = line m n mode4 x ++ lines_from m (n + 1) (mode_past m mode4 x) xs

-- `chip N three` or `chip N four`: the bytes of the chip, and the address bytes of legacy opcodes before the first step
unfoldable pub chip_line : Parameters → Bool → List ℕ
chip_line m mode4 = closed (codes "chip " ++ (decimal m.size ++ (if mode4 then codes " four" else codes " three")))

-- the first line and the lines of steps, without an end line
unfoldable pub unended_listing : Parameters → Bool → List Step → List ℕ
unended_listing m mode4 steps = chip_line m mode4 ++ lines_from m 0 mode4 steps

unfoldable pub listing : Parameters → Bool → List Step → List ℕ
listing m mode4 steps = chip_line m mode4 ++ (lines_from m 0 mode4 steps ++ end_line (length steps))
