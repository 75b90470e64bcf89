-- The first file that can't be opened, or all of them.
use Rattle.std.proofs.Common.{[]}
use Rattle.norprog_common.specs.declared.faults.FileName.TheVariants as file
use Rattle.norprog_files.specs.Files.{Here, IsOpened, Later}
use Rattle.norprog_files.proofs.FilesLemmas.{adds_both, stops_after, stops_before}
use Rattle.norprog_named.specs.Run.{Opens_play}
use Rattle.norprog_named.proofs.JobLemmas.{stops_reading, tables_used}
use Rattle.norprog_named.proofs.run_files.open_play.Goals as goal

pub returns-in_err-tables : goal.returns-in_err-tables
returns-in_err-tables g c = record {
  did =
      let did = c.in_err-tables.ensures in
      (did.0, did.1, stops_reading _ _ _ _ _ c.from_residual.ensures.1 (stops_before _ did.2));
}

pub returns-in_err-content : goal.returns-in_err-content
returns-in_err-content g c = record {
  did =
      let tables = c.in_ok-tables.ensures in (
        _,
        adds_both tables.1 c.in_err-content.ensures.did,
        stops_reading _ _ _ _ _ c.from_residual-in_err-content.ensures.1
            (stops_after (tables_used tables.2) (Here file.Content c.args.request.now.content.now _ _ c.in_err-content.ensures.refused)),
      );
}

pub returns-in_err-script : goal.returns-in_err-script
returns-in_err-script g c = record {
  did =
      let tables = c.in_ok-tables.ensures in (
        _,
        adds_both tables.1 (adds_both c.in_ok-content.ensures.did c.in_err-script.ensures.did),
        stops_reading _ _ _ _ _ c.from_residual-in_err-script.ensures.1
            (stops_after (tables_used tables.2)
            (Later file.Content c.args.request.now.content.now _ _ _ _ (IsOpened _ _) (Here file.Script c.args.request.now.script.now [] _ c.in_err-script.ensures.refused))),
      );
}

pub returns : goal.returns
returns g c = record {
  did =
      let tables = c.in_ok-tables.ensures in (
        _,
        adds_both tables.1 (adds_both c.in_ok-content.ensures.did c.in_ok-script.ensures.did),
        Opens_play _ tables.0 tables.2,
      );
}
