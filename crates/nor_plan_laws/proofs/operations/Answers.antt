-- By what each instruction does on a chip at rest.
use Rattle.nor_plan_laws.proofs.Erased.Agree.{operation_is_done}
use Rattle.nor_plan_laws.proofs.operations.Goals as goal

pub returns : goal.returns
returns c = operation_is_done
