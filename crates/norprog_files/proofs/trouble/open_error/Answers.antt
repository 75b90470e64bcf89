-- A question, and perhaps an opening to read.
use Rattle.norprog_files.proofs.FilesLemmas.{adds_both}
use Rattle.norprog_files.proofs.QuestionLemmas.{asks, both, reads}
use Rattle.norprog_files.proofs.trouble.open_error.Goals as goal

pub returns-in-Err : goal.returns-in-Err
returns-in-Err g c = (_, c.in-Err.ensures, asks _ _)

pub returns-in-Folder : goal.returns-in-Folder
returns-in-Folder g c = (_, c.in-Ok.ensures, asks _ _)

pub returns-in-Regular : goal.returns-in-Regular
returns-in-Regular g c = (_, adds_both c.in-Ok.ensures c.open.ensures, both (asks _ _) (reads _ _))

pub returns-in-Characters : goal.returns-in-Characters
returns-in-Characters g c = (_, c.in-Ok.ensures, asks _ _)
