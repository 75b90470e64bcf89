-- By the laws, and the one address that is due.
use Rattle.nor_plan_laws.proofs.Small.{small_is_workable, small_work_erases}
use Rattle.nor_plan_laws.proofs.small_work.Goals as goal

pub returns-clause-workable : goal.returns-clause-workable
returns-clause-workable c = small_is_workable

pub returns-clause-erases : goal.returns-clause-erases
returns-clause-erases c = small_work_erases c.there_is_planned_work.ensures.some
