-- The files, then the older content, and then what the image's files give.
use Rattle.std.proofs.Common.{◌++◌, refl}
use Rattle.nor_base.proofs.FaultLaws.{answered}
use Rattle.norprog_files.proofs.FilesLemmas.{adds_both}
use Rattle.norprog_named.specs.Flash.{EndsReading, HasTexts, NoData, NoFile, NoWhole, UnfitDump}
use Rattle.norprog_named.proofs.flash_files.read_texts.Goals as goal

pub returns-in_err-read : goal.returns-in_err-read
returns-in_err-read g c =
    let did = c.in_err-read.ensures in
    (did.0, did.1, answered _ (λ result. EndsReading c.args.request.now result did.0) _ (NoFile _ _ did.2) c.from_residual.ensures.1)

pub returns-in_err-old : goal.returns-in_err-old
returns-in_err-old g c =
    let did = c.in_ok-read.ensures in (
      did.0,
      did.1,
      answered _ (λ result. EndsReading c.args.request.now result did.0) _ (UnfitDump _ _ _ did.2 c.in_err-old.ensures.refused)
          c.from_residual-in_err-old.ensures.1,
    )

pub returns-in_err-first : goal.returns-in_err-first
returns-in_err-first g c =
    let did = c.in_ok-read.ensures in (
      did.0,
      did.1,
      answered _ (λ result. EndsReading c.args.request.now result did.0) _
          (NoData _ _ _ _ did.2 c.in_ok-old.ensures.dump (rw c.bytes_in-lay.ensures at c.in_err-first.ensures.refused)) c.from_residual-in_err-first.ensures.1,
    )

pub returns-in_err-whole : goal.returns-in_err-whole
returns-in_err-whole g c =
    let did = c.in_ok-read.ensures in
    let whole = c.in_err-whole.ensures in (
      _,
      adds_both did.1 whole.1,
      answered _ (λ result. EndsReading c.args.request.now result (did.0 ++ whole.0)) _
          (NoWhole _ _ _ did.0 whole.0 _ did.2 c.in_ok-old.ensures.dump (rw c.bytes_in-lay.ensures at c.in_ok-first.ensures.gives) (rw c.bytes_in-lay.ensures at whole.2))
          c.from_residual-in_err-whole.ensures.1,
    )

pub returns : goal.returns
returns g c =
    let did = c.in_ok-read.ensures in
    let whole = c.in_ok-whole.ensures in (
      _,
      adds_both did.1 whole.1,
      HasTexts _ _ _ _ did.0 whole.0 did.2
          (rw c.bytes_in-lay.ensures at c.in_ok-first.ensures.gives) (rw c.bytes_in-lay.ensures at whole.2) (record {
            hex = c.into_parts-hex.ensures.text;
            image = c.into_parts-hex.ensures.image;
            layout = refl;
            sfdp = refl;
            old = c.in_ok-old.ensures.dump;
          }),
    )
