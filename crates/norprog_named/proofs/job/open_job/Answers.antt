-- The files, then what the first gives, and then the further ones.
use Rattle.std.proofs.Common.{refl}
use Rattle.norprog_files.proofs.FilesLemmas.{adds_both}
use Rattle.norprog_named.specs.Opening.{NoData, NoFile, NoImage, Opens_job}
use Rattle.norprog_named.proofs.JobLemmas.{stops_opening}
use Rattle.norprog_named.proofs.job.open_job.Goals as goal

pub returns-in_err-read : goal.returns-in_err-read
returns-in_err-read g c = record {
  did = let did = c.in_err-read.ensures.did in (did.0, did.1, stops_opening _ _ _ _ _ c.from_residual.ensures.1 (NoFile _ _ did.2));
}

pub returns-in_err-first : goal.returns-in_err-first
returns-in_err-first g c = record {
  did =
      let did = c.in_ok-read.ensures.did in (
        did.0,
        did.1,
        stops_opening _ _ _ _ _ c.from_residual-in_err-first.ensures.1 (NoData _ _ _ _ _ did.2 (rw c.bytes_in-lay.ensures at c.in_err-first.ensures.refused)),
      );
}

pub returns-in_err-whole : goal.returns-in_err-whole
returns-in_err-whole g c = record {
  did =
      let did = c.in_ok-read.ensures.did in
      let whole = c.in_err-whole.ensures in (
        _,
        adds_both did.1 whole.1,
        stops_opening _ _ _ _ _ c.from_residual-in_err-whole.ensures.1
            (NoImage _ _ _ _ _ _ _ did.2 (rw c.bytes_in-lay.ensures at c.in_ok-first.ensures.gives) (rw c.bytes_in-lay.ensures at whole.2)),
      );
}

pub returns : goal.returns
returns g c = record {
  did =
      let did = c.in_ok-read.ensures.did in
      let whole = c.in_ok-whole.ensures in (
        _,
        adds_both did.1 whole.1,
        Opens_job _ _ _ _ _ did.2 (rw c.bytes_in-lay.ensures at c.in_ok-first.ensures.gives) (rw c.bytes_in-lay.ensures at whole.2)
            (rw (c.into_parts-hex.ensures.text, c.into_parts-hex.ensures.image) refl),
      );
}
