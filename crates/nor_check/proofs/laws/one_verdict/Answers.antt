-- The law.
use Rattle.nor_check.proofs.OneVerdict.{one_worst}
use Rattle.nor_check.proofs.laws.one_verdict.Goals as goal

pub returns : goal.returns
returns c = one_worst
