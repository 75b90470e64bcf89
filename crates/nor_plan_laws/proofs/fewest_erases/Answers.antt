-- Each erased block has an erase in each run that does the task and erases no more.
use Rattle.nor_plan_laws.proofs.Fewest.Blocks.{no_script_has_fewer_erases}
use Rattle.nor_plan_laws.proofs.fewest_erases.Goals as goal

pub returns : goal.returns
returns c = no_script_has_fewer_erases
