-- Whether the work is planned.
use Rattle.std.proofs.Common.{ℕ, List, Option, refl, subst, sym}
use Rattle.nor_base.proofs.FaultLaws.{handed_on}
use Rattle.nor_base.specs.declared.step.Step.{Step}
use Rattle.norprog_flash.specs.Begun.{printed}
use Rattle.norprog_flash.specs.Stops.{CantPlan, NoPlace, Unplanned}
use Rattle.norprog_flash.proofs.StopsLemmas.{on_chip, over}
use Rattle.norprog_flash.specs.Refused.{RefusesWork}
use Rattle.norprog_flash.specs.Work.{IsWork, plan_of}
use Rattle.norprog_flash.proofs.begun.plan_for.Goals as goal

pub returns-in_err-image-clause-refused : goal.returns-in_err-image-clause-refused
returns-in_err-image-clause-refused c =
    handed_on (λ why. (text : Option (List ℕ)) → CantPlan c.args.job.now c.args.reading.now (printed text text) why) _ _ c.from_residual.ensures.1
    (λ text. subst (CantPlan c.args.job.now c.args.reading.now (printed text text)) (sym c.in_err-image.ensures.memory) (NoPlace refl))

pub returns-clause-refused : goal.returns-clause-refused
returns-clause-refused c = λ text.
    Unplanned c.in-Err.why
    (over (λ t content old. RefusesWork t content old c.in-Err.why) c.args.job.now c.args.reading.now _ _ _
    (on_chip c.args.job.now c.args.reading.now _ _ _ _ c.inputs_for-inputs.ensures c.as_slice.ensures.value c.as_slice-content.ensures.value c.in_ok-image.ensures.image)
    c.as_slice-content.ensures.value c.requires.old c.in-Err.ensures.refused) refl

pub returns-in-Ok-clause-work : goal.returns-in-Ok-clause-work
returns-in-Ok-clause-work c =
    over (λ t content old. (steps : List Step) × IsWork t content old (plan_of c.in-Ok.work steps)) c.args.job.now c.args.reading.now _ _ _
    (on_chip c.args.job.now c.args.reading.now _ _ _ _ c.inputs_for-inputs.ensures c.as_slice.ensures.value c.as_slice-content.ensures.value c.in_ok-image.ensures.image)
    c.as_slice-content.ensures.value c.requires.old c.in-Ok.ensures.work
