-- A program on one lane or on four.
use Rattle.nor_chip.specs.Sent.{instruction_of}
use Rattle.nor_cells.proofs.TouchedLemmas.{by_program}
use Rattle.nor_cells.proofs.touched.mark_seen.Goals as goal

pub returns-in-Program : goal.returns-in-Program
returns-in-Program c = by_program c.args.meaning.now (instruction_of c.args.seen.now) c.args.seen.now.what c.args.marks.now c.mark_program.new.marks c.in-Program.is c.mark_program.ensures
