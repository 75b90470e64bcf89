-- How its answer ends.
use Rattle.norprog_named.proofs.asked_device.play_asked.Goals as goal

pub returns-clause-ends : goal.returns-clause-ends
returns-clause-ends g c = let did = c.play_given.ensures in (did.0, did.1, (c.play_given.result, did.2, c.report_play.ensures.says))
