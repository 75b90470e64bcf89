-- The inputs and the content are those of the chip that was read.
use Rattle.std.proofs.Common.{◌≡◌, ◌⊎◌, inr, ℕ, List, length, subst, IfErr, IfOk}
use Rattle.nor_base.proofs.FaultLaws.{handed_on}
use Rattle.nor_job.specs.declared.fault.BuildFault.TheVariants.{Memory}
use Rattle.norprog_common.specs.declared.faults.Refusal.TheVariants.{Build}
use Rattle.nor_job.specs.Task.{Task}
use Rattle.norprog_common.specs.Rules.{BreaksRules, MeetsRules}
use Rattle.norprog_common.specs.declared.rules.ImageRules.{ImageRules}
use Rattle.norprog_flash.specs.Begun.{rules_on}
use Rattle.norprog_flash.specs.Task.{task_on}
use Rattle.norprog_flash.proofs.StopsLemmas.{on_chip, or_memory}
use Rattle.norprog_flash.proofs.begun.refuse_unruled.Goals as goal

pub returns-in_err-image-clause-breaks : goal.returns-in_err-image-clause-breaks
returns-in_err-image-clause-breaks c =
    handed_on (λ why. BreaksRules (rules_on c.args.job.now) (task_on c.args.job.now c.args.reading.now) (length c.args.reading.now.content.items) why ⊎ (why ≡ Build Memory))
    _ _ c.from_residual.ensures.1 (inr c.in_err-image.ensures.memory)

pub returns-clause-meets : goal.returns-clause-meets
returns-clause-meets c =
    let job = c.args.job.now in
    let task = task_on job c.args.reading.now in
    subst (λ (rules : ImageRules). IfOk c.refuse_image.result (λ _. MeetsRules rules task (length c.args.reading.now.content.items))) c.rules_on.ensures
    (subst (λ (xs : List ℕ). IfOk c.refuse_image.result (λ _. MeetsRules c.rules_on.result task (length xs))) c.as_slice-content.ensures.value
    (subst (λ (t : Task). IfOk c.refuse_image.result (λ _. MeetsRules c.rules_on.result t (length c.as_slice-content.result.now)))
    (on_chip job c.args.reading.now _ _ _ _ c.inputs_for-inputs.ensures c.as_slice.ensures.value c.as_slice-content.ensures.value c.in_ok-image.ensures.image) c.refuse_image.ensures.meets))

pub returns-clause-breaks : goal.returns-clause-breaks
returns-clause-breaks c =
    let job = c.args.job.now in
    let task = task_on job c.args.reading.now in
    or_memory (BreaksRules (rules_on job) task (length c.args.reading.now.content.items)) c.refuse_image.result
    (subst (λ (rules : ImageRules). IfErr c.refuse_image.result (BreaksRules rules task (length c.args.reading.now.content.items))) c.rules_on.ensures
    (subst (λ (xs : List ℕ). IfErr c.refuse_image.result (BreaksRules c.rules_on.result task (length xs))) c.as_slice-content.ensures.value
    (subst (λ (t : Task). IfErr c.refuse_image.result (BreaksRules c.rules_on.result t (length c.as_slice-content.result.now)))
    (on_chip job c.args.reading.now _ _ _ _ c.inputs_for-inputs.ensures c.as_slice.ensures.value c.as_slice-content.ensures.value c.in_ok-image.ensures.image) c.refuse_image.ensures.breaks)))
