-- The request that the values spell, or usage.
use Rattle.std.proofs.Common.{[], sym}
use Rattle.norprog_files.proofs.FilesLemmas.{adds_none}
use Rattle.norprog_named.specs.Asked.{Formed, Unformed}
use Rattle.norprog_named.proofs.asked.hex_asked.Goals as goal

pub returns-in-Some-clause-ends : goal.returns-in-Some-clause-ends
returns-in-Some-clause-ends g c = (c.hex.ensures.0, c.hex.ensures.1, Formed c.in-Some.request c.hex.ensures.0 c.hex.result c.in-Some.ensures.values c.hex.ensures.2)

pub returns-in-None-clause-ends : goal.returns-in-None-clause-ends
returns-in-None-clause-ends g c = ([], adds_none _, Unformed (sym c.in-None.ensures.forms))
