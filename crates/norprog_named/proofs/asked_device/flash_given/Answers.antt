-- The request that the values spell, or usage.
use Rattle.std.proofs.Common.{[], refl, sym}
use Rattle.norprog_files.proofs.FilesLemmas.{adds_none}
use Rattle.norprog_named.specs.Asked.{Formed, Unformed}
use Rattle.norprog_named.proofs.asked_device.flash_given.Goals as goal

pub returns-in-Some-clause-ends : goal.returns-in-Some-clause-ends
returns-in-Some-clause-ends g c =
    let did = c.flash.ensures.ends in (did.0, did.1, Formed c.in-Some.request did.0 c.flash.result c.in-Some.ensures.values did.2)

pub returns-in-None-clause-ends : goal.returns-in-None-clause-ends
returns-in-None-clause-ends g c = ([], adds_none _, Unformed (sym c.in-None.ensures.forms, refl))
