-- By computation.
use Rattle.std.proofs.Common.{refl}
use Rattle.nor_base.specs.Blocks.{is_legal}
use Rattle.nor_laws.proofs.worked.blocks_worked.Goals as goal

pub returns-clause-legal : goal.returns-clause-legal
unfolding is_legal
returns-clause-legal c = refl

pub returns-clause-none : goal.returns-clause-none
unfolding is_legal
returns-clause-none c = refl
