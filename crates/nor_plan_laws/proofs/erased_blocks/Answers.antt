-- What is erased is what is needed, by the largest blocks.
use Rattle.nor_plan_laws.proofs.Erased.Needed.{erases_needed, erases_blocks, erases_apart, erases_largest}
use Rattle.nor_plan_laws.proofs.erased_blocks.Goals as goal

pub returns-clause-needed : goal.returns-clause-needed
returns-clause-needed c = erases_needed

pub returns-clause-blocks : goal.returns-clause-blocks
returns-clause-blocks c = erases_blocks

pub returns-clause-apart : goal.returns-clause-apart
returns-clause-apart c = erases_apart

pub returns-clause-largest : goal.returns-clause-largest
returns-clause-largest c = erases_largest
