-- Planned steps fit their kind, and a device's limits.
use Rattle.nor_flasher.proofs.DoableLemmas.{planned_is_doable}
use Rattle.nor_flasher.proofs.LengthLemmas.{planned_is_one, refused_for_length}
use Rattle.nor_flasher.proofs.laws.doable.Goals as goal

pub returns-clause-doable : goal.returns-clause-doable
returns-clause-doable c = planned_is_doable c.effects.ensures.asks

pub returns-clause-refused : goal.returns-clause-refused
returns-clause-refused c =
    refused_for_length
    (planned_is_one c.spelling.ensures.one c.there_is_planned_work.ensures.spelled c.single.ensures.operation c.single.ensures.planned)
