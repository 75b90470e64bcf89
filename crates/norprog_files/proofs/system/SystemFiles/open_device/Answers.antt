-- A terminal, by its calls.
use Rattle.std.proofs.Common.{◌∙◌, ap, refl}
use Rattle.nor_base.proofs.FaultLaws.{handed_on}
use Rattle.nor_base.specs.Device.{ahead_of}
use Rattle.std.specs.Io.Buffered.{reader_remaining}
use Rattle.norprog_common.specs.declared.faults.FileName.TheVariants.{Device}
use Rattle.nor_base.specs.Wire.{wire}
use Rattle.norprog_files.specs.Files.{Denies, Wired}
use Rattle.norprog_files.specs.Trace.{ToNoDevice, ToWired}
use Rattle.norprog_files.proofs.DeniesLemmas.{device_denies}
use Rattle.norprog_files.proofs.TraceLemmas.{denied, traced}
use Rattle.norprog_files.proofs.system.SystemFiles.open_device.Goals as goal

pub returns-in_err-from-clause-did : goal.returns-in_err-from-clause-did
returns-in_err-from-clause-did g c =
    let did = c.in_err-from.ensures in
    denied _ c.from_residual.result _ c.from_residual.ensures.1 (traced did.1 refl refl (ToNoDevice c.args.path.now _ did.0 did.2))

pub returns-in_err-from-clause-refused : goal.returns-in_err-from-clause-refused
returns-in_err-from-clause-refused g c = handed_on (Denies Device) _ _ c.from_residual.ensures.1 (device_denies c.in_err-from.ensures.2)

pub returns-clause-did : goal.returns-clause-did
returns-clause-did g c =
    let did = c.in_ok-from.ensures in
    traced did.1 refl
    (ap (λ inner. Wired c.args.path.now (wire (g.D.File.Write.contents inner) (ahead_of (reader_remaining g.D.File.Read.remaining c.new.result.inner)))) c.new-2.ensures.inner
    ∙ ap (λ inner. Wired c.args.path.now (wire (g.D.File.Write.contents c.in_ok-from.to) (ahead_of (reader_remaining g.D.File.Read.remaining inner)))) c.new.ensures.inner)
    (ToWired c.args.path.now c.in_ok-from.from c.in_ok-from.to did.0 did.2)
