-- Inputs that a build refuses.
use Rattle.std.proofs.Common.{sym}
use Rattle.norprog_common.specs.Rules.{Unaccepted}
use Rattle.norprog_common.proofs.rules.refuse_image.Goals as goal

pub returns-in-Err-clause-breaks : goal.returns-in-Err-clause-breaks
returns-in-Err-clause-breaks c = Unaccepted c.in-Err.fault (sym c.if-not-are_some.ensures) c.in-Err.ensures.refused
