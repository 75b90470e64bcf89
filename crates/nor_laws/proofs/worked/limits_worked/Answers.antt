-- The chip at the upper limits.
use Rattle.nor_laws.proofs.LimitLaws.{widest_is_accepted}
use Rattle.nor_laws.proofs.worked.limits_worked.Goals as goal

pub returns : goal.returns
returns c = widest_is_accepted
