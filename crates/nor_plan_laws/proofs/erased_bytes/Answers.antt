-- Both count the addresses that some unit's block holds.
use Rattle.nor_plan_laws.proofs.Erased.Area.{erased_bytes}
use Rattle.nor_plan_laws.proofs.erased_bytes.Goals as goal

pub returns : goal.returns
returns c = erased_bytes c.there_is_planned_work.ensures.some
