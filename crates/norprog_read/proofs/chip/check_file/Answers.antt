-- The file, where one is given, has a meaning, or none.
use Rattle.std.proofs.Common.{ℕ, List, Option, sym, subst}
use Rattle.std.specs.Prelude.{IfSome}
use Rattle.nor_base.specs.Parameters.{Parameters}
use Rattle.nor_job.specs.Chip.{HasChip}
use Rattle.norprog_read.specs.Chip.{chip_task}
use Rattle.norprog_read.specs.Stops.{Meaningless}
use Rattle.norprog_read.proofs.chip.check_file.Goals as goal

pub returns-in-None-clause-file : goal.returns-in-None-clause-file
returns-in-None-clause-file c =
    subst (λ (o : Option (List ℕ)). IfSome o (λ file. (m : Parameters) × HasChip (chip_task c.args.ask.now file) m)) (rw c.in-None.is at c.file_of.ensures) tt

pub returns-in-Ok-clause-file : goal.returns-in-Ok-clause-file
returns-in-Ok-clause-file c =
    subst (λ (o : Option (List ℕ)). IfSome o (λ file. (m : Parameters) × HasChip (chip_task c.args.ask.now file) m)) (rw c.in-Some.is at c.file_of.ensures)
    (_, c.in-Ok.ensures.means)

pub returns-in-Err-clause-stops : goal.returns-in-Err-clause-stops
returns-in-Err-clause-stops c =
    Meaningless c.in-Some.file.now c.in-Err.why (sym (rw c.in-Some.is at c.file_of.ensures)) c.in-Err.ensures.refused
