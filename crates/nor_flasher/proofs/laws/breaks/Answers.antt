-- The loop breaks over a gap, and between two steps.
use Rattle.nor_flasher.proofs.ApartLemmas as apart
use Rattle.nor_flasher.proofs.LengthLemmas.{planned_is_one}
use Rattle.nor_flasher.proofs.laws.breaks.Goals as goal

pub returns-clause-halts : goal.returns-clause-halts
returns-clause-halts c =
    apart.breaks (planned_is_one c.spelling.ensures.one c.there_is_planned_work.ensures.spelled c.single.ensures.operation c.single.ensures.planned) c.device.ensures.halted
    c.loop_breaks.ensures c.loop_is_explained.ensures c.quad.ensures.part

pub returns-clause-rests : goal.returns-clause-rests
returns-clause-rests c =
    apart.rests (planned_is_one c.spelling.ensures.one c.there_is_planned_work.ensures.spelled c.single.ensures.operation c.single.ensures.planned) c.device.ensures.logged
    c.loop_breaks.ensures c.loop_is_explained.ensures c.quad.ensures.part
