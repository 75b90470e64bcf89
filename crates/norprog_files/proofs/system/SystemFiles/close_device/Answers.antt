-- No call.
use Rattle.std.proofs.Common.{refl}
use Rattle.norprog_files.specs.Trace.{ToUnwired}
use Rattle.norprog_files.proofs.FilesLemmas.{adds_none}
use Rattle.norprog_files.proofs.TraceLemmas.{traced}
use Rattle.norprog_files.proofs.system.SystemFiles.close_device.Goals as goal

pub returns : goal.returns
returns g c = traced (adds_none _) refl refl (ToUnwired c.args._path.now _)
