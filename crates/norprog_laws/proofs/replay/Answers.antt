-- The bounded play of the chip that shows a no is its run.
use Rattle.norprog_laws.proofs.ReplayLemmas.{no_is_replayed}
use Rattle.norprog_laws.proofs.replay.Goals as goal

pub returns : goal.returns
returns c = no_is_replayed c.bounded_runs.ensures
