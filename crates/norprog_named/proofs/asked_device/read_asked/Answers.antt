-- How its answer ends.
use Rattle.norprog_named.proofs.asked_device.read_asked.Goals as goal

pub returns-clause-ends : goal.returns-clause-ends
returns-clause-ends g c = let did = c.read_given.ensures in (did.0, did.1, (c.read_given.result, did.2, c.report_read.ensures.says))
