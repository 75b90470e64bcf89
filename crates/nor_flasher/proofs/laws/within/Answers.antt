-- Planned work within a part doesn't depend on the rest of the chip.
use Rattle.nor_flasher.proofs.WithinLemmas.{planned_for_all}
use Rattle.nor_flasher.proofs.laws.within.Goals as goal

pub returns : goal.returns
returns c = planned_for_all
