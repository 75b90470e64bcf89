-- The first file that can't be read, or all of them.
use Rattle.norprog_common.specs.declared.faults.FileName.TheVariants as file
use Rattle.norprog_files.proofs.FilesLemmas.{adds_both, stops_after, stops_before}
use Rattle.norprog_named.proofs.FlashLemmas.{asked_used, reads_all}
use Rattle.norprog_named.proofs.JobLemmas.{named_used, reads_used, stops_reading}
use Rattle.norprog_named.proofs.flash_files.read_files.Goals as goal

pub returns-in_err-hex : goal.returns-in_err-hex
returns-in_err-hex g c =
    let did = c.in_err-hex.ensures in (did.0, did.1, stops_reading _ _ _ _ _ c.from_residual.ensures.1 (stops_before _ did.2))

pub returns-in_err-layout : goal.returns-in_err-layout
returns-in_err-layout g c =
    let hex = c.in_ok-hex.ensures in
    let did = c.in_err-layout.ensures in (
      _,
      adds_both hex.1 did.1,
      stops_reading _ _ _ _ _ c.from_residual-in_err-layout.ensures.1
          (stops_after (asked_used hex.2) (stops_before _ did.2)),
    )

pub returns-in_err-sfdp : goal.returns-in_err-sfdp
returns-in_err-sfdp g c =
    let hex = c.in_ok-hex.ensures in
    let layout = c.in_ok-layout.ensures in
    let did = c.in_err-sfdp.ensures in (
      _,
      adds_both hex.1 (adds_both layout.1 did.1),
      stops_reading _ _ _ _ _ c.from_residual-in_err-sfdp.ensures.1
          (stops_after (asked_used hex.2)
          (stops_after (reads_used file.Layout layout.2) (stops_before _ did.2))),
    )

pub returns-in_err-old : goal.returns-in_err-old
returns-in_err-old g c =
    let hex = c.in_ok-hex.ensures in
    let layout = c.in_ok-layout.ensures in
    let tables = c.in_ok-sfdp.ensures in
    let did = c.in_err-old.ensures in (
      _,
      adds_both hex.1 (adds_both layout.1 (adds_both tables.1 did.1)),
      stops_reading _ _ _ _ _ c.from_residual-in_err-old.ensures.1
          (stops_after (asked_used hex.2)
          (stops_after (reads_used file.Layout layout.2) (stops_after (named_used tables.2) did.2))),
    )

pub returns : goal.returns
returns g c =
    let hex = c.in_ok-hex.ensures in
    let layout = c.in_ok-layout.ensures in
    let tables = c.in_ok-sfdp.ensures in
    let old = c.in_ok-old.ensures in
    (_, adds_both hex.1 (adds_both layout.1 (adds_both tables.1 old.1)), reads_all hex.2 layout.2 tables.2 old.2)
