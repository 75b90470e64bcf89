-- Nothing more was told, or that the object couldn't be written.
use Rattle.std.proofs.Common.{refl, rules}
use Rattle.norprog_cli.specs.Ends.{AsBefore, NotAdded}
use Rattle.norprog_cli.proofs.add_object.Goals as goal

pub returns-in_default-2 : goal.returns-in_default-2
returns-in_default-2 g c = AsBefore refl

pub returns-in_default : goal.returns-in_default
returns-in_default g c = AsBefore refl

pub returns-in-Err : goal.returns-in-Err
returns-in-Err g c = NotAdded _ (search rules) (c.refuse.ensures.status, c.refuse.ensures.told)
