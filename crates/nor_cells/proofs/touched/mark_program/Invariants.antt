-- The cells of the bytes so far are marked.
use Rattle.nor_chip.specs.Sent.{instruction_of}
use Rattle.nor_cells.specs.Marks.{MarkedBy}
use Rattle.nor_cells.proofs.TouchedLemmas.{ProgramsFirst}
use Rattle.nor_cells.proofs.touched.mark_program.Given as goal

abbrev pub invariant-loop-index : goal.invariant-loop-index
invariant-loop-index l = MarkedBy (ProgramsFirst l.meaning (instruction_of l.seen) l.index) l.fn.marks l.marks
