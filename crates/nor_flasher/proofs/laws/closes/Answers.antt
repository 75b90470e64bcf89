-- The loop closes over a gap.
use Rattle.nor_flasher.proofs.ApartLemmas as apart
use Rattle.nor_flasher.proofs.laws.closes.Goals as goal

pub returns : goal.returns
returns c = apart.closes c.planned_work.ensures.done c.device.ensures.logged c.loop_closes.ensures.told c.loop_is_explained.ensures c.quad.ensures.whatever
