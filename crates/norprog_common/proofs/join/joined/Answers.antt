-- Both, or what keeps them apart.
use Rattle.nor_base.proofs.FaultLaws.{handed_on}
use Rattle.norprog_common.specs.Image.{Clashes, Joined, NoOther, NoRoom, RefusesJoin}
use Rattle.norprog_common.proofs.join.joined.Goals as goal

pub returns-in_err-other-clause-refused : goal.returns-in_err-other-clause-refused
returns-in_err-other-clause-refused c =
    handed_on (RefusesJoin c.args.image.now c.args.beside) _ _ c.from_residual.ensures.1 (NoOther _ c.in_err-other.ensures.refused)

pub returns-in-Ok-clause-joined : goal.returns-in-Ok-clause-joined
returns-in-Ok-clause-joined c = Joined c.in_ok-other.other c.in_ok-other.ensures.image c.in-Ok.ensures.union

pub returns-in-Err-Conflict-clause-refused : goal.returns-in-Err-Conflict-clause-refused
returns-in-Err-Conflict-clause-refused c =
    Clashes c.in_ok-other.other c.in-Err-Conflict.address c.in_ok-other.ensures.image
    (rw c.in-Err-Conflict.field-0-is at c.in-Err-Conflict.ensures.clash)

pub returns-clause-refused : goal.returns-clause-refused
returns-clause-refused c = NoRoom
