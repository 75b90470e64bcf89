-- One call.
use Rattle.norprog_files.specs.Guards.{IsOpen, Unopened}
use Rattle.norprog_files.proofs.guards.open_as.Goals as goal

pub returns-in-Ok : goal.returns-in-Ok
returns-in-Ok g c = (_, c.in-Ok.ensures, IsOpen c.in-Ok.file)

pub returns-in-Err : goal.returns-in-Err
returns-in-Err g c = (_, c.in-Err.ensures, Unopened c.in-Err.error _ c.refusal_of.ensures)
