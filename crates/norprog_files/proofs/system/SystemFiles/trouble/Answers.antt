-- Questions.
use Rattle.std.proofs.Common.{refl}
use Rattle.norprog_files.specs.Trace.{ToAsked}
use Rattle.norprog_files.proofs.TraceLemmas.{traced}
use Rattle.norprog_files.proofs.system.SystemFiles.trouble.Goals as goal

pub returns : goal.returns
returns g c = let did = c.open_error.ensures in traced did.1 refl refl (ToAsked c.args.path.now did.0 did.2)
