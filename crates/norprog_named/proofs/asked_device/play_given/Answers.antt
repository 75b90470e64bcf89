-- The request that the values spell, or usage.
use Rattle.std.proofs.Common.{[], sym}
use Rattle.norprog_files.proofs.FilesLemmas.{adds_none}
use Rattle.norprog_named.specs.Asked.{Formed, Unformed}
use Rattle.norprog_named.proofs.asked_device.play_given.Goals as goal

pub returns-in-Some : goal.returns-in-Some
returns-in-Some g c = (c.play.ensures.0, c.play.ensures.1, Formed c.in-Some.request c.play.ensures.0 c.play.result c.in-Some.ensures.values c.play.ensures.2)

pub returns-in-None : goal.returns-in-None
returns-in-None g c = ([], adds_none _, Unformed (sym c.in-None.ensures.forms))
