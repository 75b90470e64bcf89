-- Each step that ends it.
use Rattle.std.proofs.Common.{[], ◌∷◌, Err, subst, sym}
use Rattle.nor_base.proofs.DeviceLaws.{risen_some}
use Rattle.nor_base.proofs.FaultLaws.{answered}
use Rattle.norprog_common.specs.declared.faults.Refusal.{Refusal}
use Rattle.norprog_files.specs.Files.{Denied, Loses_some, Made, Opened, closing}
use Rattle.norprog_files.proofs.FilesLemmas.{adds_both, closed, lost}
use Rattle.norprog_files.specs.declared.replaced.OutKind.TheVariants.{Hex}
use Rattle.norprog_named.specs.Hex.{BadOutput, EndsHex, NoImage, NoOutput, TooLong}
use Rattle.norprog_named.proofs.HexLemmas.{converted, unconverted}
use Rattle.norprog_named.proofs.hex_files.hex.Goals as goal

pub returns-in_err-bin : goal.returns-in_err-bin
returns-in_err-bin g c =
    let log = Denied c.args.request.bin.now ∷ [] in
    (log, c.in_err-bin.ensures.did, answered _ (EndsHex (g.F.Files.unread c.args.files.now) c.args.request log) _ (NoImage _ c.in_err-bin.ensures.refused) c.from_residual.ensures.1)

pub returns-then-not-fits : goal.returns-then-not-fits
returns-then-not-fits g c = (_, c.in_ok-bin.ensures.did, TooLong _ c.in_ok-bin.len c.if-not-fits.ensures.long)

pub returns-in_err-out : goal.returns-in_err-out
returns-in_err-out g c =
    let r = c.args.request in
    let log = Opened r.bin.now (g.F.Input.ByteIn.ahead c.in_ok-bin.bin) c.in_ok-bin.len ∷ Denied r.out.path.now ∷ [] in (
      log,
      adds_both c.in_ok-bin.ensures.did c.in_err-out.ensures.did,
      answered _ (EndsHex (g.F.Files.unread c.args.files.now) r log) _ (NoOutput _ c.in_ok-bin.len _ c.if-not-fits.ensures.fits c.in_err-out.ensures.refused)
          c.from_residual-in_err-out.ensures.1,
    )

pub returns-in-Ok-closed : goal.returns-in-Ok-closed
returns-in-Ok-closed g c = (
  _,
  adds_both c.in_ok-bin.ensures.did (adds_both c.in_ok-out.ensures.did c.in-Ok-closed.ensures.did),
  converted _ c.args.request _ c.in_ok-bin.len _ _ c.in-Ok.ensures.converted,
)

pub returns-in-Ok : goal.returns-in-Ok
returns-in-Ok g c = (
  _,
  adds_both c.in_ok-bin.ensures.did (adds_both c.in_ok-out.ensures.did c.in-Err-closed.ensures.did),
  BadOutput _ c.in_ok-bin.len _ _ (Loses_some _ _ c.in-Ok.ensures.converted.put),
)

pub returns : goal.returns
returns g c =
    let r = c.args.request in
    let image = g.F.Input.ByteIn.ahead c.in_ok-bin.bin in
    let begun = g.F.Output.ByteOut.held c.in_ok-out.out in
    let held = g.F.Output.ByteOut.held c.convert-converted.new.out in
    let last = closing c.close-closed.result r.out.path.now held in
    let log = Opened r.bin.now image c.in_ok-bin.len ∷ Made r.out Hex begun ∷ last ∷ [] in (
      log,
      adds_both c.in_ok-bin.ensures.did (adds_both c.in_ok-out.ensures.did c.close-closed.ensures.did),
      subst (λ (w : Refusal). EndsHex (g.F.Files.unread c.args.files.now) r log (Err w)) (sym c.refusal_of.ensures)
          (unconverted _ r image c.in_ok-bin.len begun held last c.in-Err.why
          (λ failed. g.met.F.Files.failing c.args.files.now c.convert-converted.new.bin (risen_some _ _ failed))
          (λ failed. lost c.close-closed.result r.out.path.now held _ _ c.close-closed.ensures.unfailed failed)
          (closed c.close-closed.result r.out.path.now held) c.in-Err.ensures.stopped c.in-Err.ensures.unended),
    )
