-- Step by step, each busy for less than the bound.
use Rattle.nor_laws.proofs.BoundedLaws.{bounded_is_run}
use Rattle.nor_laws.proofs.bounded_runs.Goals as goal

pub returns : goal.returns
returns c = bounded_is_run
