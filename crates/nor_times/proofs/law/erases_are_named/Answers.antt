-- By the law that an opcode has one row.
use Rattle.nor_times.proofs.NameLemmas.{erases_named}
use Rattle.nor_times.proofs.law.erases_are_named.Goals as goal

pub returns : goal.returns
returns c = erases_named c.instruction_rows.ensures.one
