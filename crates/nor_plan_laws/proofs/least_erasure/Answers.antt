-- A byte that is due stays due until an erase holds it.
use Rattle.nor_plan_laws.proofs.Erased.Least.{no_script_erases_less}
use Rattle.nor_plan_laws.proofs.least_erasure.Goals as goal

pub returns : goal.returns
returns c = no_script_erases_less
