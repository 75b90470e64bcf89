-- Stretches side by side.
use Rattle.nor_plan_laws.proofs.Erased.Needed.{units_join}
use Rattle.nor_plan_laws.proofs.units_join.Goals as goal

pub returns : goal.returns
returns c = units_join
