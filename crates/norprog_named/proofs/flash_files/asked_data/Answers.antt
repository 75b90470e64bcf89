-- What the file gives, or nothing.
use Rattle.std.proofs.Common.{refl}
use Rattle.norprog_named.proofs.flash_files.asked_data.Goals as goal

pub returns-in-Some-clause-gives : goal.returns-in-Some-clause-gives
returns-in-Some-clause-gives c = rw c.in-Some.is c.image_data.ensures.gives

pub returns-in-Some-clause-refused : goal.returns-in-Some-clause-refused
returns-in-Some-clause-refused c = rw c.in-Some.is c.image_data.ensures.refused

pub returns-in-None-clause-gives : goal.returns-in-None-clause-gives
returns-in-None-clause-gives c = rw c.in-None.is refl
