-- Two calls, or one that fails.
use Rattle.norprog_files.specs.Guards.{IsSeen, Unreached, Unseen}
use Rattle.norprog_files.proofs.FilesLemmas.{adds_both}
use Rattle.norprog_files.proofs.guards.open_seen.Goals as goal

pub returns-in-Err : goal.returns-in-Err
returns-in-Err g c = (_, c.in-Err.ensures, Unreached c.in-Err.error _ c.refusal_of.ensures)

pub returns-in-Ok-stat_of : goal.returns-in-Ok-stat_of
returns-in-Ok-stat_of g c = (_, adds_both c.in-Ok.ensures c.in-Ok-stat_of.ensures, IsSeen c.in-Ok.file c.in-Ok-stat_of.stat)

pub returns-in-Err-stat_of : goal.returns-in-Err-stat_of
returns-in-Err-stat_of g c =
    (_, adds_both c.in-Ok.ensures c.in-Err-stat_of.ensures, Unseen c.in-Ok.file c.in-Err-stat_of.error _ c.refusal_of-in-Err-stat_of.ensures)
