-- The comparison with the target, or why there is none.
use Rattle.std.proofs.Common.{ℕ, List, Option, refl, subst, sym}
use Rattle.nor_base.proofs.FaultLaws.{handed_on}
use Rattle.norprog_flash.specs.Begun.{printed}
use Rattle.norprog_flash.specs.Stops.{CantPlan, NoPlace}
use Rattle.norprog_flash.proofs.StopsLemmas.{compared, not_compared, on_chip}
use Rattle.norprog_flash.proofs.device.compare_read.Goals as goal

pub returns-in_err-image-clause-refused : goal.returns-in_err-image-clause-refused
returns-in_err-image-clause-refused c =
    handed_on (λ why. (text : Option (List ℕ)) → CantPlan c.args.job.now c.args.reading.now (printed text text) why) _ _ c.from_residual.ensures.1
    (λ text. subst (CantPlan c.args.job.now c.args.reading.now (printed text text)) (sym c.in_err-image.ensures.memory) (NoPlace refl))

pub returns-in-Ok-clause-compared : goal.returns-in-Ok-clause-compared
returns-in-Ok-clause-compared c =
    compared c.args.job.now c.args.reading.now _ _ c.in-Ok.comparison
    (on_chip c.args.job.now c.args.reading.now _ _ _ _ c.inputs_for-inputs.ensures c.as_slice.ensures.value c.as_slice-content.ensures.value c.in_ok-image.ensures.image)
    c.as_slice-content.ensures.value c.in-Ok.ensures.compared

pub returns-clause-refused : goal.returns-clause-refused
returns-clause-refused c = λ text.
    not_compared c.args.job.now c.args.reading.now text _ _ c.in-Err.why
    (on_chip c.args.job.now c.args.reading.now _ _ _ _ c.inputs_for-inputs.ensures c.as_slice.ensures.value c.as_slice-content.ensures.value c.in_ok-image.ensures.image)
    c.as_slice-content.ensures.value c.in-Err.ensures.refused
