-- The report, or why there is none.
use Rattle.std.proofs.Common.{ap, refl}
use Rattle.nor_base.proofs.FaultLaws.{handed_on}
use Rattle.norprog_named.specs.Build.{Breaking}
use Rattle.norprog_named.proofs.BuildLemmas.{stopped}
use Rattle.norprog_named.proofs.build_files.built.Goals as goal

pub returns-in_err-refuse_image-clause-unbuilt : goal.returns-in_err-refuse_image-clause-unbuilt
returns-in_err-refuse_image-clause-unbuilt g c = handed_on _ _ _ c.from_residual.ensures.1 (Breaking _ c.in_err-refuse_image.ensures.breaks refl)

pub returns-in-Err-clause-unbuilt : goal.returns-in-Err-clause-unbuilt
returns-in-Err-clause-unbuilt g c =
    stopped _ _ _ _ _ _ _ _ _ _ c.in_ok-refuse_image.ensures.meets c.in-Err.ensures.refused (λ same. ap (λ w. g.W.ByteOut.held w) same)
    c.in-Err.ensures.counts.0 c.in-Err.ensures.counts.1
