-- Each step that ends it.
use Rattle.std.proofs.Common.{[], refl}
use Rattle.nor_base.proofs.FaultLaws.{answered}
use Rattle.norprog_files.proofs.FilesLemmas.{adds_both, adds_none}
use Rattle.norprog_named.specs.Flash.{EndsJob, Faulty, NoDevice, OnDevice}
use Rattle.norprog_named.proofs.flash_files.flash_job.Goals as goal

pub returns-in_err-look_at-clause-ends : goal.returns-in_err-look_at-clause-ends
returns-in_err-look_at-clause-ends g c =
    ([], adds_none _, answered _ (EndsJob _ _ _ _ _) _ (Faulty _ c.in_err-look_at.ensures.refused refl) c.from_residual.ensures.1)

pub returns-in_err-from-clause-ends : goal.returns-in_err-from-clause-ends
returns-in_err-from-clause-ends g c = (
  _,
  c.in_err-from.ensures.did,
  answered _ (EndsJob _ _ _ _ _) _ (NoDevice _ c.in_ok-look_at.ensures.sound c.in_err-from.ensures.refused refl) c.from_residual-in_err-from.ensures.1,
)

pub returns-clause-ends : goal.returns-clause-ends
returns-clause-ends g c =
    let did = c.flash_greeted-ended.ensures.ends in (
      _,
      adds_both c.in_ok-from.ensures.did (adds_both did.1 c.close_device.ensures),
      OnDevice _ _ did.0 _ c.in_ok-look_at.ensures.sound did.2,
    )
