-- With words, and without.
use Rattle.std.proofs.Common.{[], refl}
use Rattle.norprog_files.proofs.FilesLemmas.{adds_none}
use Rattle.norprog_cli.proofs.answer_given.Goals as goal

pub returns-in-Ok-clause-ends : goal.returns-in-Ok-clause-ends
returns-in-Ok-clause-ends g c = rw c.in-Ok.is c.answer.ensures.ends

pub returns-in-Err-clause-ends : goal.returns-in-Err-clause-ends
returns-in-Err-clause-ends g c = rw c.in-Err.is ([], adds_none _, (refl, refl, (c.refuse.ensures.status, c.refuse.ensures.told)))
