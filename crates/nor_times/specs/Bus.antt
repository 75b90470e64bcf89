-- The clocks of a plan's script, by the instructions of `nor_base` (this project's): an opcode and each address byte eight, data
-- eight a byte on one lane and two on four.
use Rattle.std.specs.Prelude.{ℕ, ◌+◌, ◌*◌, ◌/◌, nat_lt, not, ◌&&◌, Bool, true, false, List, [], ◌∷◌, length, sum_by, is_some, if◌then◌else◌}
use Rattle.std.specs.List.{list_any}
use Rattle.nor_base.specs.declared.meaning.Start.{Start}
use Rattle.nor_base.specs.declared.meaning.Strategy.{Strategy}
use Rattle.nor_base.specs.declared.meaning.Strategy.TheVariants.{S1, S2, S3, S4, S5}
use Rattle.nor_base.specs.declared.meaning.Switch.{Switch}
use Rattle.nor_base.specs.declared.meaning.Switch.TheVariants.{Absent, Plain, Latched}
use Rattle.nor_base.specs.declared.step.Step.{Step}
use Rattle.nor_base.specs.declared.step.Step.TheVariants.{Send, Poll, Verify}
use Rattle.nor_base.specs.Parameters.{Parameters}
use Rattle.nor_base.specs.Instructions.{quad_read_dummies}
use Rattle.nor_base.specs.Operations.{takes_dedicated, legacy_width}
use Rattle.nor_base.specs.Strategies.{strategy}
use Rattle.nor_outline.specs.declared.line.PlanLine.{PlanLine}
use Rattle.nor_outline.specs.declared.line.PlanLine.TheVariants.{Erase, Because, Program}

-- the clocks of a step; a poll counts once
abbrev pub step_clocks : Step → ℕ
step_clocks (Send clocks) = length clocks
step_clocks (Poll clocks) = length clocks
step_clocks (Verify clocks expect) = length clocks

abbrev pub steps_clocks : List Step → ℕ
steps_clocks steps = sum_by step_clocks steps

-- an opcode with four address bytes; one with those that the strategy has for an address
abbrev pub head4_clocks : ℕ
head4_clocks = 40

abbrev pub head_clocks : Strategy → ℕ → ℕ
head_clocks by a = if takes_dedicated by a then head4_clocks else 8 + 8 * legacy_width by

-- a change of the array: the write enable, the instruction, one poll
abbrev pub change_clocks : ℕ → ℕ
change_clocks clocks = 8 + (clocks + 16)

abbrev pub erase_clocks : Strategy → ℕ → ℕ
erase_clocks by start = change_clocks (head_clocks by start)

-- a program instruction of so many bytes
abbrev pub program_clocks : Parameters → Start → Strategy → ℕ → ℕ → ℕ
program_clocks m s by start count =
    if s.quad && m.quad4 then head4_clocks + 2 * count
    else if s.quad && (m.quad3 && not (takes_dedicated by start)) then head_clocks by start + 2 * count
    else head_clocks by start + 8 * count

-- a read of so many bytes
abbrev pub read_clocks : Parameters → Start → Strategy → ℕ → ℕ → ℕ
read_clocks m s by start count =
    if s.quad && m.quad_read4 then head4_clocks + (quad_read_dummies m + 2 * count)
    else if s.quad && (is_some m.quad_read && not (takes_dedicated by start)) then head_clocks by start + (quad_read_dummies m + 2 * count)
    else head_clocks by start + 8 * count

-- how a plan is done
pub record Doing : Type 0 where
  pub meaning : Parameters
  pub start : Start
  pub by : Strategy
  -- what was written is read
  pub verify : Bool

-- on a chip that begins so
abbrev pub doing_of : Parameters → Start → Bool → Doing
doing_of m s verify = record { meaning = m; start = s; by = strategy m s; verify = verify }

-- an erase, and where the work is verified the reads of the block's pages; no block spans 2^24
abbrev pub block_clocks : Doing → ℕ → ℕ → ℕ
block_clocks d start size =
    erase_clocks d.by start
    + (if d.verify then size / d.meaning.page * read_clocks d.meaning d.start d.by start d.meaning.page else 0)

-- a program, and where the work is verified its read, unless it lies below the end of the block that was erased last: that is
-- read as a whole
abbrev pub run_clocks : Doing → ℕ → ℕ → ℕ → ℕ
run_clocks d end start count =
    change_clocks (program_clocks d.meaning d.start d.by start count)
    + (if d.verify && not (nat_lt start end) then read_clocks d.meaning d.start d.by start count else 0)

-- of lines, from the end of the block that was erased last on
abbrev pub lines_clocks : Doing → ℕ → List PlanLine → ℕ
lines_clocks d end [] = 0
lines_clocks d end (Erase start size opcode ∷ lines) = block_clocks d start size + lines_clocks d (start + size) lines
lines_clocks d end (Because start cause ∷ lines) = lines_clocks d end lines
lines_clocks d end (Program start count ∷ lines) = run_clocks d end start count + lines_clocks d end lines

-- the end of the block that was erased last, after lines
abbrev pub end_after : ℕ → List PlanLine → ℕ
end_after end [] = end
end_after end (Erase start size opcode ∷ lines) = end_after (start + size) lines
end_after end (Because start cause ∷ lines) = end_after end lines
end_after end (Program start count ∷ lines) = end_after end lines

-- a change of the address mode
abbrev pub switch_clocks : Switch → ℕ
switch_clocks Absent = 0
switch_clocks Plain = 8
switch_clocks Latched = 24

-- the mode is entered and left
abbrev pub mode_clocks : Parameters → Strategy → ℕ
mode_clocks m S1 = 0
mode_clocks m S2 = 0
mode_clocks m S3 = 0
mode_clocks m S4 = switch_clocks m.enter + switch_clocks m.leave
mode_clocks m S5 = 0

-- a line reports an instruction
abbrev pub is_work : PlanLine → Bool
is_work (Erase start size opcode) = true
is_work (Because start cause) = false
is_work (Program start count) = true

abbrev pub done_clocks : Doing → List PlanLine → ℕ
done_clocks d lines = (if list_any is_work lines then mode_clocks d.meaning d.by else 0) + lines_clocks d 0 lines

-- of a plan's lines
unfoldable pub bus_of : Parameters → Start → Bool → List PlanLine → ℕ
bus_of m s verify lines = done_clocks (doing_of m s verify) lines
