-- The lines of the instructions before this one were put.
use Rattle.std.proofs.Common.{◌≡◌, ◌++◌, take}
use Rattle.nor_base.specs.Script.{step_lines}
use Rattle.nor_steps.specs.Lines.{lines_out}
use Rattle.nor_steps.proofs.kept.StepListInstrOut.take.Given as goal

abbrev pub invariant-loop-instr : goal.invariant-loop-instr
invariant-loop-instr l = step_lines l.self ≡ step_lines l.fn.self ++ lines_out (take l.instr-index l.instrs)
