-- A file to be read, by its calls.
use Rattle.std.proofs.Common.{ap, refl}
use Rattle.nor_base.proofs.FaultLaws.{handed_on}
use Rattle.nor_base.specs.Device.{ahead_of}
use Rattle.norprog_files.specs.Files.{Denies, Opened}
use Rattle.norprog_files.specs.Trace.{ToNoInput, ToOpened}
use Rattle.norprog_files.proofs.DeniesLemmas.{input_denies}
use Rattle.norprog_files.proofs.TraceLemmas.{denied, traced}
use Rattle.norprog_files.proofs.system.SystemFiles.open.Goals as goal

pub returns-in_err-file-clause-did : goal.returns-in_err-file-clause-did
returns-in_err-file-clause-did g c =
    let did = c.in_err-file.ensures in
    denied _ c.from_residual.result _ c.from_residual.ensures.1 (traced did.1 did.2.1 refl (ToNoInput c.args.path.now c.args.name _ did.2.0 did.0 did.2.2))

pub returns-in_err-file-clause-refused : goal.returns-in_err-file-clause-refused
returns-in_err-file-clause-refused g c = handed_on (Denies c.args.name) _ _ c.from_residual.ensures.1 (input_denies c.in_err-file.ensures.2.2)

pub returns-clause-did : goal.returns-clause-did
returns-clause-did g c =
    let did = c.in_ok-file.ensures in
    traced did.1 did.2.1 (ap (λ inner. Opened c.args.path.now (ahead_of (g.D.File.Read.remaining inner)) c.in_ok-file.len) c.new.ensures.inner)
    (ToOpened c.args.path.now c.args.name c.in_ok-file.file c.in_ok-file.len did.2.0 did.0 did.2.2)
