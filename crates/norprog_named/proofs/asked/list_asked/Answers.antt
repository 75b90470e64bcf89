-- The request that the values spell, or usage.
use Rattle.std.proofs.Common.{[], refl, sym}
use Rattle.norprog_files.proofs.FilesLemmas.{adds_none}
use Rattle.norprog_named.specs.Asked.{Formed, Unformed}
use Rattle.norprog_named.proofs.asked.list_asked.Goals as goal

pub returns-in-Some-clause-ends : goal.returns-in-Some-clause-ends
returns-in-Some-clause-ends g c = (c.list.ensures.0, c.list.ensures.1, Formed c.in-Some.request c.list.ensures.0 c.list.result c.in-Some.ensures.values c.list.ensures.2)

pub returns-in-None-clause-ends : goal.returns-in-None-clause-ends
returns-in-None-clause-ends g c = ([], adds_none _, Unformed (sym c.in-None.ensures.forms, refl))
