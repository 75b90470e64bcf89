-- The line is that of what the image gives.
use Rattle.norprog_plan.proofs.regions.write_line.Goals as goal

pub returns-clause-bytes : goal.returns-clause-bytes
returns-clause-bytes g c = rw c.in-Some.is c.write_share.ensures.bytes
