-- The first file that can't be read, or both.
use Rattle.std.proofs.Common.{[]}
use Rattle.norprog_common.specs.declared.faults.FileName.TheVariants as file
use Rattle.norprog_files.specs.Files.{Here}
use Rattle.norprog_files.proofs.FilesLemmas.{adds_both, stops_after, stops_before}
use Rattle.norprog_named.specs.Script.{Read_log}
use Rattle.norprog_named.proofs.JobLemmas.{named_used, stops_reading}
use Rattle.norprog_named.proofs.script_files.read_log.Goals as goal

pub returns-in_err-tables : goal.returns-in_err-tables
returns-in_err-tables g c =
    let did = c.in_err-tables.ensures in
    (did.0, did.1, stops_reading _ _ _ _ _ c.from_residual.ensures.1 (stops_before _ (rw c.chip_in.ensures at did.2)))

pub returns-in_err-text : goal.returns-in_err-text
returns-in_err-text g c =
    let did = c.in_ok-tables.ensures in (
      _,
      adds_both did.1 c.in_err-text.ensures.did,
      stops_reading _ _ _ _ _ c.from_residual-in_err-text.ensures.1
          (stops_after (named_used (rw c.chip_in.ensures at did.2)) (Here file.Log c.args.request.log.now [] _ c.in_err-text.ensures.refused)),
    )

pub returns : goal.returns
returns g c =
    let did = c.in_ok-tables.ensures in
    (_, adds_both did.1 c.in_ok-text.ensures.did, Read_log did.0 (rw c.chip_in.ensures at did.2))
