-- The command line that the words spell, or why they spell none.
use Rattle.std.proofs.Common.{[], refl}
use Rattle.norprog_cli.specs.Answers.{Spelled, Unspelled}
use Rattle.norprog_files.proofs.FilesLemmas.{adds_none}
use Rattle.norprog_cli.proofs.command.command.Goals as goal

pub returns-in-Ok-clause-answer : goal.returns-in-Ok-clause-answer
returns-in-Ok-clause-answer g c =
    let did = c.answer_line.ensures.answer in (did.0, did.1, Spelled c.in-Ok.line did.0 (rw c.as_slice.ensures.value at c.in-Ok.ensures.line) did.2)

pub returns-clause-answer : goal.returns-clause-answer
returns-clause-answer g c = (
  [],
  adds_none _,
  Unspelled c.in-Err.refusal (rw c.as_slice.ensures.value at c.in-Err.ensures.refused) refl (c.refuse.ensures.status, c.refuse.ensures.told),
)
