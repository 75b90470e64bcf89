-- The tables, and then the content.
use Rattle.nor_base.proofs.FaultLaws.{answered}
use Rattle.norprog_files.proofs.FilesLemmas.{adds_both}
use Rattle.norprog_named.specs.Read.{NoTables, SavesReading, WithTables}
use Rattle.norprog_named.proofs.read_files.save_reading.Goals as goal

pub returns-in_err-save_if : goal.returns-in_err-save_if
returns-in_err-save_if g c =
    let did = c.in_err-save_if.ensures in
    (did.0, did.1, answered _ (SavesReading c.args.request c.args.reading.now did.0) _ (NoTables did.0 _ (rw c.as_slice-tables.ensures.value at did.2)) c.from_residual.ensures.1)

pub returns : goal.returns
returns g c =
    let tables = c.in_ok-save_if.ensures in
    let content = c.save_if-2.ensures in (
      _,
      adds_both tables.1 content.1,
      WithTables tables.0 content.0 c.save_if-2.result (rw c.as_slice-tables.ensures.value at tables.2) (rw c.as_slice-content.ensures.value at content.2),
    )
