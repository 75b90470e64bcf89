-- The device that was opened and closed, or can't be opened.
use Rattle.std.proofs.Common.{[], ◌∷◌}
use Rattle.nor_base.proofs.FaultLaws.{answered}
use Rattle.norprog_files.specs.Files.{Denied}
use Rattle.norprog_files.proofs.FilesLemmas.{adds_both}
use Rattle.norprog_read.specs.declared.fault.Unread.TheVariants.{Refused}
use Rattle.norprog_named.specs.Read.{EndsReading, NoDevice}
use Rattle.norprog_named.proofs.ReadLemmas.{ends_reading}
use Rattle.norprog_named.proofs.read_files.read_device.Goals as goal

pub returns-in_err-from : goal.returns-in_err-from
returns-in_err-from g c =
    let device = c.args.device.now in
    let log = Denied device ∷ [] in (
      log,
      c.in_err-from.ensures.did,
      answered _ (EndsReading device c.args.ask.now log) (Refused c.in_err-from.field-0.0) (NoDevice _ c.in_err-from.ensures.refused) c.from_residual.ensures.1,
    )

pub returns : goal.returns
returns g c = (
  _,
  adds_both c.in_ok-from.ensures.did c.close_device.ensures,
  ends_reading c.args.device.now c.args.ask.now _ _ c.read_opened-read.result c.read_opened-read.ensures.read c.read_opened-read.ensures.stops,
)
