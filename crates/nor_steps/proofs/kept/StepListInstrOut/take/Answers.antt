-- At a fault the steps of the instructions before this one are kept.
use Rattle.std.proofs.Common.{Some}
use Rattle.nor_base.proofs.DeviceLaws.{Cuts-at, Writes-cut}
use Rattle.nor_base.specs.Script.{step_lines}
use Rattle.nor_select.specs.View.{coded_of}
use Rattle.nor_steps.specs.Lines.{coded_line}
use Rattle.nor_steps.proofs.kept.StepListInstrOut.take.Goals as goal

pub returns-in_err-keep-clause-lines : goal.returns-in_err-keep-clause-lines
returns-in_err-keep-clause-lines c =
    Writes-cut (Some (step_lines c.args.self.now)) (Some (step_lines c.keep.new.self)) _ _ c.from_residual.ensures.0
    (Cuts-at (λ i. coded_line (coded_of i)) c.args.instrs.now _ c.loop-instr.instr-index (Some (step_lines c.args.self.now)) (Some (step_lines c.loop-instr.self))
    (Some (step_lines c.keep.new.self)) c.loop-instr-test.true c.loop-instr.invariant c.in_err-keep.ensures.lines)
