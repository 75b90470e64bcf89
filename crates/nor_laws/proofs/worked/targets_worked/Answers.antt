-- By computation.
use Rattle.std.proofs.Common.{refl}
use Rattle.nor_base.specs.Target.{target}
use Rattle.nor_laws.proofs.worked.targets_worked.Goals as goal

pub returns-clause-one : goal.returns-clause-one
unfolding target
returns-clause-one c = refl

pub returns-clause-end : goal.returns-clause-end
unfolding target
returns-clause-end c = refl

pub returns-clause-ignored : goal.returns-clause-ignored
returns-clause-ignored c = refl
