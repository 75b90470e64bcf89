-- Questions, and openings to read and to write.
use Rattle.norprog_files.proofs.FilesLemmas.{adds_both}
use Rattle.norprog_files.proofs.QuestionLemmas.{asks, both, looks}
use Rattle.norprog_files.proofs.trouble.device_error.Goals as goal

pub returns-in-Err : goal.returns-in-Err
returns-in-Err g c = (_, c.stat.ensures, asks _ _)

pub returns-in_default : goal.returns-in_default
returns-in_default g c = (_, c.stat.ensures, asks _ _)

pub returns-in_default-open_seen : goal.returns-in_default-open_seen
returns-in_default-open_seen g c = let list = c.open_seen.ensures in (_, adds_both c.stat.ensures list.1, both (asks _ _) (looks list.2))

pub returns-in_default-read_opened : goal.returns-in_default-read_opened
returns-in_default-read_opened g c = let list = c.open_seen.ensures in (_, adds_both c.stat.ensures list.1, both (asks _ _) (looks list.2))

pub returns-in-Ok-from_utf8 : goal.returns-in-Ok-from_utf8
returns-in-Ok-from_utf8 g c =
    let list = c.open_seen.ensures in
    let opened = c.terminal_error.ensures in
    (_, adds_both (adds_both c.stat.ensures list.1) opened.1, both (both (asks _ _) (looks list.2)) opened.2)

pub returns : goal.returns
returns g c = let list = c.open_seen.ensures in (_, adds_both c.stat.ensures list.1, both (asks _ _) (looks list.2))
