-- At a fault the lines of the instructions before this one were put, and a proper prefix of its own.
use Rattle.nor_base.proofs.DeviceLaws.{Cuts-at, Writes-cut}
use Rattle.nor_select.specs.View.{coded_of}
use Rattle.nor_steps.specs.Lines.{coded_line}
use Rattle.nor_steps.proofs.lines.AnyInstrOut.take.Goals as goal

pub returns-in_err-write_instr-clause-lines : goal.returns-in_err-write_instr-clause-lines
returns-in_err-write_instr-clause-lines g c =
    Writes-cut _ _ _ _ c.from_residual.ensures.0
    (Cuts-at (λ i. coded_line (coded_of i)) c.args.instrs.now _ c.loop-instr.instr-index _ _ _ c.loop-instr-test.true c.loop-instr.invariant.put c.in_err-write_instr.ensures.lines)
