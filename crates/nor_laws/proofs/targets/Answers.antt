-- The bytes of a target.
use Rattle.nor_laws.proofs.TargetLaws.{target_keeps, target_gives}
use Rattle.nor_laws.proofs.targets.Goals as goal

pub returns-clause-keeps : goal.returns-clause-keeps
returns-clause-keeps c = target_keeps

pub returns-clause-gives : goal.returns-clause-gives
returns-clause-gives c = target_gives
