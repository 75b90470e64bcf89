-- The text spells these steps.
use Rattle.norprog_player.proofs.job.steps_of.Goals as goal

pub returns-in-Ok-clause-spelled : goal.returns-in-Ok-clause-spelled
returns-in-Ok-clause-spelled g c = let read = c.in-Ok.ensures.read in (read.0, read.1, record { steps = c.in-Ok.steps; script = read.2 })
