-- Each step that ends it.
use Rattle.std.proofs.Common.{[], refl}
use Rattle.nor_base.proofs.FaultLaws.{answered}
use Rattle.norprog_files.proofs.FilesLemmas.{adds_none}
use Rattle.norprog_flash.specs.declared.ending.Unflashed.TheVariants.{Refused}
use Rattle.norprog_named.specs.Flash.{EndsHeld, Ended, NotHeld, NotPlanned, NotSaved}
use Rattle.norprog_named.proofs.flash_files.flash_held.Goals as goal

pub returns-in_err-held-clause-ends : goal.returns-in_err-held-clause-ends
returns-in_err-held-clause-ends g c =
    ([], adds_none _, answered _ (EndsHeld _ _ _ _ _ _ _) _ (NotHeld _ c.in_err-held.ensures.stops refl) c.from_residual.ensures.1)

pub returns-in_err-save_if-clause-ends : goal.returns-in_err-save_if-clause-ends
returns-in_err-save_if-clause-ends g c =
    let did = c.in_err-save_if.ensures in
    let saved = rw (c.file_for-path.ensures, c.saved-content.ensures, c.in_ok-held.ensures.copy) at did.2 in (
      did.0,
      did.1,
      answered _ (EndsHeld _ _ _ _ _ _ _) _
          (NotSaved _ _ _ c.in_ok-held.ensures.held.0 saved refl) c.from_residual-in_err-save_if.ensures.1,
    )

pub returns-in-Ok-clause-ends : goal.returns-in-Ok-clause-ends
returns-in-Ok-clause-ends g c =
    let read = c.in_ok-held.ensures.held.0 in
    let did = c.in_ok-save_if.ensures in
    let saved = rw (c.file_for-path.ensures, c.saved-content.ensures, c.in_ok-held.ensures.copy) at did.2 in (
      did.0,
      did.1,
      Ended _ _ _ saved (record { ready = read.ready; tested = read.tested; ends = c.in-Ok.ensures.ends read.ready read.read }),
    )

pub returns-clause-ends : goal.returns-clause-ends
returns-clause-ends g c =
    let did = c.in_ok-save_if.ensures in
    let saved = rw (c.file_for-path.ensures, c.saved-content.ensures, c.in_ok-held.ensures.copy) at did.2 in (
      did.0,
      did.1,
      rw (c.in-Err.ensures.unsent.0, c.in-Err.ensures.unsent.1) (NotPlanned _ _ _ c.in_ok-held.ensures.held.0 saved c.in-Err.ensures.refused),
    )
