-- With a read and without one.
use Rattle.norprog.proofs.chip_text.put_quad_read.Goals as goal

pub returns-in-None-clause-bytes : goal.returns-in-None-clause-bytes
returns-in-None-clause-bytes g c = rw c.in-None.is c.put_all.ensures.bytes

pub returns-in-Some-clause-bytes : goal.returns-in-Some-clause-bytes
returns-in-Some-clause-bytes g c = rw c.in-Some.is c.put_read.ensures.bytes
