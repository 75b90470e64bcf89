-- Planned work does the task, unit by unit.
use Rattle.nor_plan_laws.proofs.Task.Whole.{planned_works}
use Rattle.nor_plan_laws.proofs.planned_work.Goals as goal

pub returns-clause-done : goal.returns-clause-done
returns-clause-done c m start verify have want steps w are s is = (planned_works m start verify have want steps w are s is).task

pub returns-clause-making : goal.returns-clause-making
returns-clause-making c m start verify have want steps w are s is = (planned_works m start verify have want steps w are s is).along
