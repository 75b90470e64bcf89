-- What keeps nothing doesn't fail.
use Rattle.nor_outline.proofs.PlanText.{closes}
use Rattle.nor_outline.proofs.plan.PlanWriter.close.Goals as goal

pub returns-clause-why : goal.returns-clause-why
returns-clause-why c = closes c.close.result c.close.ensures.count c.close.ensures.why
