-- The request that the values spell, or usage.
use Rattle.std.proofs.Common.{[], refl, sym}
use Rattle.norprog_files.proofs.FilesLemmas.{adds_none}
use Rattle.norprog_named.specs.Asked.{Formed, Unformed}
use Rattle.norprog_named.proofs.asked.plan_asked.Goals as goal

pub returns-in-Some-clause-ends : goal.returns-in-Some-clause-ends
returns-in-Some-clause-ends g c = (c.plan.ensures.0, c.plan.ensures.1, Formed c.in-Some.request c.plan.ensures.0 c.plan.result c.in-Some.ensures.values c.plan.ensures.2)

pub returns-in-None-clause-ends : goal.returns-in-None-clause-ends
returns-in-None-clause-ends g c = ([], adds_none _, Unformed (sym c.in-None.ensures.forms, refl))
