-- What a transaction keeps and gives.
use Rattle.nor_laws.proofs.EffectLaws.{keeps_size}
use Rattle.nor_base.proofs.SampledLaws.{asks_sampled}
use Rattle.nor_laws.proofs.GivenLaws.{gives_sampled}
use Rattle.nor_laws.proofs.effects.Goals as goal

pub returns-clause-keeps : goal.returns-clause-keeps
returns-clause-keeps c = keeps_size

pub returns-clause-gives : goal.returns-clause-gives
returns-clause-gives c = gives_sampled

pub returns-clause-asks : goal.returns-clause-asks
returns-clause-asks c = asks_sampled
