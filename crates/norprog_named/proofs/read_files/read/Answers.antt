-- Each step that ends it.
use Rattle.std.proofs.Common.{◌++◌}
use Rattle.nor_base.proofs.FaultLaws.{answered}
use Rattle.norprog_files.proofs.FilesLemmas.{adds_both}
use Rattle.norprog_read.specs.declared.fault.Unread.TheVariants.{Refused}
use Rattle.norprog_named.specs.Read.{Asked, EndsRead, Kept, NoInput, NoMeaning, NotKept, NotRead}
use Rattle.norprog_named.proofs.read_files.read.Goals as goal

pub returns-in_err-tables : goal.returns-in_err-tables
returns-in_err-tables g c =
    let did = c.in_err-tables.ensures in
    (did.0, did.1, answered _ (EndsRead c.args.request did.0) (Refused c.in_err-tables.field-0.0) (NoInput did.0 _ did.2) c.from_residual.ensures.1)

pub returns-in_err-check_file : goal.returns-in_err-check_file
returns-in_err-check_file g c =
    let tables = c.in_ok-tables.ensures in (
      tables.0,
      tables.1,
      answered _ (EndsRead c.args.request tables.0) _
          (NoMeaning c.ask_of-ask.result tables.0 _ (Asked _ tables.0 tables.2 (rw c.as_slice.ensures.value at c.ask_of-ask.ensures))
          c.in_err-check_file.ensures.stops)
          c.from_residual-in_err-check_file.ensures.1,
    )

pub returns-in_err-reading : goal.returns-in_err-reading
returns-in_err-reading g c =
    let tables = c.in_ok-tables.ensures in
    let device = c.in_err-reading.ensures in (
      _,
      adds_both tables.1 device.1,
      answered _ (EndsRead c.args.request (tables.0 ++ device.0)) _
          (NotRead c.ask_of-ask.result tables.0 device.0 _ (Asked _ tables.0 tables.2 (rw c.as_slice.ensures.value at c.ask_of-ask.ensures)) device.2)
          c.from_residual-in_err-reading.ensures.1,
    )

pub returns-in_err-save_reading : goal.returns-in_err-save_reading
returns-in_err-save_reading g c =
    let tables = c.in_ok-tables.ensures in
    let device = c.in_ok-reading.ensures in
    let saved = c.in_err-save_reading.ensures in (
      _,
      adds_both tables.1 (adds_both device.1 saved.1),
      answered _ (EndsRead c.args.request (tables.0 ++ (device.0 ++ saved.0))) (Refused c.in_err-save_reading.field-0.0)
          (NotKept c.ask_of-ask.result tables.0 device.0 saved.0 c.in_ok-reading.reading _
          (Asked _ tables.0 tables.2 (rw c.as_slice.ensures.value at c.ask_of-ask.ensures)) device.2 saved.2)
          c.from_residual-in_err-save_reading.ensures.1,
    )

pub returns : goal.returns
returns g c =
    let tables = c.in_ok-tables.ensures in
    let device = c.in_ok-reading.ensures in
    let saved = c.in_ok-save_reading.ensures in (
      _,
      adds_both tables.1 (adds_both device.1 saved.1),
      Kept c.ask_of-ask.result tables.0 device.0 saved.0 c.in_ok-reading.reading
          (Asked _ tables.0 tables.2 (rw c.as_slice.ensures.value at c.ask_of-ask.ensures)) device.2 saved.2,
    )
