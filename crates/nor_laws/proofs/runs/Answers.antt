-- A run ends with its trail.
use Rattle.nor_laws.proofs.RunLaws.{run_ends_trail}
use Rattle.nor_laws.proofs.runs.Goals as goal

pub returns : goal.returns
returns c = run_ends_trail
