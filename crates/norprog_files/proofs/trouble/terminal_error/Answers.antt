-- One opening to read, and perhaps one to write.
use Rattle.norprog_files.proofs.FilesLemmas.{adds_both}
use Rattle.norprog_files.proofs.QuestionLemmas.{both, reads, writes}
use Rattle.norprog_files.proofs.trouble.terminal_error.Goals as goal

pub returns-in-Err : goal.returns-in-Err
returns-in-Err g c = (_, c.in-Err.ensures, reads _ _)

pub returns-in-Ok : goal.returns-in-Ok
returns-in-Ok g c = (_, adds_both c.in-Ok.ensures c.open-in-Ok.ensures, both (reads _ _) (writes _ _))
