-- The plan was printed.
use Rattle.norprog_flash.specs.Ended.{Planning}
use Rattle.norprog_flash.proofs.device.only_plan.Goals as goal

pub returns-clause-planned : goal.returns-clause-planned
returns-clause-planned g c = Planning _ c.in_ok-print_plan.ensures.plan.1
