-- The first file that can't be opened, or all of them.
use Rattle.std.proofs.Common.{[]}
use Rattle.norprog_common.specs.Image.{image_in}
use Rattle.norprog_common.specs.declared.faults.FileName.TheVariants as file
use Rattle.norprog_files.specs.Files.{Here}
use Rattle.norprog_files.proofs.FilesLemmas.{adds_both, stops_after, stops_before}
use Rattle.norprog_named.proofs.JobLemmas.{image_used, opens_files, reads_used, stops_reading, tables_used}
use Rattle.norprog_named.proofs.job.open_files.Goals as goal

pub returns-in_err-hex : goal.returns-in_err-hex
returns-in_err-hex g c = record {
  did = let did = c.in_err-hex.ensures in (did.0, did.1, stops_reading _ _ _ _ _ c.from_residual.ensures.1 (stops_before _ did.2));
}

pub returns-in_err-layout : goal.returns-in_err-layout
returns-in_err-layout g c = record {
  did =
      let did = c.in_err-layout.ensures in
      let hex = c.in_ok-hex.ensures in (
        _,
        adds_both hex.1 did.1,
        stops_reading _ _ _ _ _ c.from_residual-in_err-layout.ensures.1
            (stops_after (image_used (image_in c.args.request.now.image) hex.2) (stops_before _ did.2)),
      );
}

pub returns-in_err-sfdp : goal.returns-in_err-sfdp
returns-in_err-sfdp g c = record {
  did =
      let hex = c.in_ok-hex.ensures in
      let layout = c.in_ok-layout.ensures in
      let did = c.in_err-sfdp.ensures in (
        _,
        adds_both hex.1 (adds_both layout.1 did.1),
        stops_reading _ _ _ _ _ c.from_residual-in_err-sfdp.ensures.1
            (stops_after (image_used (image_in c.args.request.now.image) hex.2)
            (stops_after (reads_used file.Layout layout.2) (stops_before _ did.2))),
      );
}

pub returns-in_err-content : goal.returns-in_err-content
returns-in_err-content g c = record {
  did =
      let hex = c.in_ok-hex.ensures in
      let layout = c.in_ok-layout.ensures in
      let tables = c.in_ok-sfdp.ensures in (
        _,
        adds_both hex.1 (adds_both layout.1 (adds_both tables.1 c.in_err-content.ensures.did)),
        stops_reading _ _ _ _ _ c.from_residual-in_err-content.ensures.1
            (stops_after (image_used (image_in c.args.request.now.image) hex.2)
            (stops_after (reads_used file.Layout layout.2) (stops_after (tables_used tables.2) (Here file.Content c.args.request.now.content.now [] _ c.in_err-content.ensures.refused)))),
      );
}

pub returns : goal.returns
returns g c = record {
  did =
      let hex = c.in_ok-hex.ensures in
      let layout = c.in_ok-layout.ensures in
      let tables = c.in_ok-sfdp.ensures in
      (_, adds_both hex.1 (adds_both layout.1 (adds_both tables.1 c.in_ok-content.ensures.did)), opens_files hex.2 layout.2 tables.2);
}
