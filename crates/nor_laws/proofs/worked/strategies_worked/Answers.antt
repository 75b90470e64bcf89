-- By computation.
use Rattle.std.proofs.Common.{refl}
use Rattle.nor_base.specs.Strategies.{strategy}
use Rattle.nor_laws.proofs.worked.strategies_worked.Goals as goal

pub returns-clause-strategies : goal.returns-clause-strategies
unfolding strategy
returns-clause-strategies c = refl

pub returns-clause-in_mode : goal.returns-clause-in_mode
unfolding strategy
returns-clause-in_mode c = refl

pub returns-clause-three : goal.returns-clause-three
unfolding strategy
returns-clause-three c = refl

pub returns-clause-dedicated : goal.returns-clause-dedicated
unfolding strategy
returns-clause-dedicated c = refl

pub returns-clause-enters : goal.returns-clause-enters
unfolding strategy
returns-clause-enters c = refl

pub returns-clause-latched : goal.returns-clause-latched
unfolding strategy
returns-clause-latched c = refl

pub returns-clause-nothing : goal.returns-clause-nothing
unfolding strategy
returns-clause-nothing c = refl

pub returns-clause-beyond : goal.returns-clause-beyond
unfolding strategy
returns-clause-beyond c = refl

pub returns-clause-erases : goal.returns-clause-erases
unfolding strategy
returns-clause-erases c = refl

pub returns-clause-quad : goal.returns-clause-quad
unfolding strategy
returns-clause-quad c = refl

pub returns-clause-quad_legacy : goal.returns-clause-quad_legacy
unfolding strategy
returns-clause-quad_legacy c = refl
