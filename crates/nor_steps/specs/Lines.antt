-- The steps of instructions, and their lines (this project's).
use Rattle.std.specs.Prelude.{ℕ, ◌≤◌, List, map, flat_map}
use Rattle.std.specs.List.{AllByRecursion}
use Rattle.nor_base.specs.declared.instruction.What.{What}
use Rattle.nor_base.specs.declared.instruction.What.TheVariants as what
use Rattle.nor_base.specs.declared.step.Step.{Step}
use Rattle.nor_base.specs.declared.step.Step.TheVariants.{Send, Poll, Verify}
use Rattle.nor_base.specs.Script.{closed, step_line}
use Rattle.nor_base.specs.Spelling.{Instr}
use Rattle.nor_base.specs.Clocks.{clocks_of}
use Rattle.nor_select.specs.Coded.{Load, plain, polled, sent, sent4, asked, asked4, Coded}
use Rattle.nor_select.specs.declared.instr.Instr.{Instr as DeclaredInstr}
use Rattle.nor_select.specs.View.{coded_of}
use Rattle.nor_frames.specs.Frames.{frame}

-- a status read is a poll, a read a verifying one, and all else is sent
abbrev pub step_by : What → Instr → Step
step_by what.Status i = Poll (clocks_of i)
step_by what.Read i = Verify (clocks_of i) i.bytes
step_by what.QuadRead i = Verify (clocks_of i) i.bytes
step_by other i = Send (clocks_of i)

abbrev pub step_of : Instr → Step
step_of i = step_by i.what i

abbrev pub steps_of : List Instr → List Step
steps_of these = map step_of these

-- so it is of an instruction as it goes out
abbrev pub load_step : Load → List ℕ → Step
load_step plain clocks = Send clocks
load_step (polled bytes) clocks = Poll clocks
load_step (sent bytes) clocks = Send clocks
load_step (sent4 bytes) clocks = Send clocks
load_step (asked bytes) clocks = Verify clocks bytes
load_step (asked4 bytes) clocks = Verify clocks bytes

abbrev pub coded_step : Coded → Step
coded_step c = load_step c.load (frame c)

abbrev pub coded_line : Coded → List ℕ
coded_line c = closed (step_line (coded_step c))

-- it has at most four address bytes
abbrev pub IsNarrow : Coded → Type 0
IsNarrow c = c.width ≤ 4

-- of instructions as they go out: their lines; and that each is narrow
abbrev pub lines_out : List DeclaredInstr → List ℕ
lines_out instrs = flat_map (λ i. coded_line (coded_of i)) instrs

abbrev pub AreNarrow : List DeclaredInstr → Type 0
AreNarrow instrs = AllByRecursion (λ i. IsNarrow (coded_of i)) instrs
