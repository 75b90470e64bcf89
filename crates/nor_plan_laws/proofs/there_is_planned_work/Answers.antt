-- By the rows of the planned instructions, and their spelling.
use Rattle.nor_plan_laws.proofs.Spelling.Spelled.{planned_spelled, there_is, one_work}
use Rattle.nor_plan_laws.proofs.there_is_planned_work.Goals as goal

pub returns-clause-spelled : goal.returns-clause-spelled
returns-clause-spelled c = planned_spelled c.instruction_rows.ensures.finds

pub returns-clause-some : goal.returns-clause-some
returns-clause-some c = there_is c.instruction_rows.ensures.finds c.spelling.ensures.has

pub returns-clause-one : goal.returns-clause-one
returns-clause-one c = one_work c.instruction_rows.ensures.finds c.spelling.ensures.same
