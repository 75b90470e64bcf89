-- By the powers of two that sizes are.
use Rattle.nor_plan_laws.proofs.Erased.Agree.{smallest_agree, blocks_stay, pages_stay}
use Rattle.nor_plan_laws.proofs.blocks.Goals as goal

pub returns-clause-smallest : goal.returns-clause-smallest
returns-clause-smallest c = smallest_agree

pub returns-clause-blocks : goal.returns-clause-blocks
returns-clause-blocks c = blocks_stay

pub returns-clause-pages : goal.returns-clause-pages
returns-clause-pages c = pages_stay
