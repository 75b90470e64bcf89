-- Where a file is named.
use Rattle.std.proofs.Common.{[]}
use Rattle.norprog_files.proofs.FilesLemmas.{adds_none}
use Rattle.norprog_named.specs.Saved.{Named, Unnamed}
use Rattle.norprog_named.proofs.saved.save_if.Goals as goal

pub returns-in-Some : goal.returns-in-Some
returns-in-Some g c =
    let did = c.save.ensures in
    rw c.in-Some.is (did.0, did.1, Named c.in-Some.path.now c.args.name c.args.bytes.now did.0 c.save.result did.2)

pub returns-in-None : goal.returns-in-None
returns-in-None g c = rw c.in-None.is ([], adds_none _, Unnamed c.args.name c.args.bytes.now)
