-- The image's pieces are those of the task.
use Rattle.std.proofs.Common.{◌≡◌, ap, None, ℕ, rules}
use Rattle.nor_base.proofs.FaultLaws.{handed_on}
use Rattle.nor_job.proofs.FaultLemmas.{refuses_image}
use Rattle.nor_job.specs.Causes.{RefusesInputs}
use Rattle.nor_job.specs.Task.{Task, contradiction}
use Rattle.norprog_flash.proofs.NearLemmas.{gets_same}
use Rattle.norprog_flash.proofs.near.near_of.Goals as goal

pub returns-in_err-image-clause-refused : goal.returns-in_err-image-clause-refused
returns-in_err-image-clause-refused c =
    let none : contradiction c.args.inputs.now ≡ None = search rules in
    handed_on (λ why. (len : ℕ) → RefusesInputs c.args.inputs.now len why) _ _ c.from_residual.ensures.1
    (λ len. refuses_image c.args.inputs.now len c.in_err-image.field-0.0 none c.in_err-image.ensures.refused)

pub returns-clause-spans : goal.returns-clause-spans
returns-clause-spans c = λ image regions named a is.
    c.span_of.ensures.each a (gets_same c.args.inputs.now image c.in_ok-image.image regions _ _ named c.in_ok-image.ensures.image
    (ap (λ (t : Task). t.base) c.inputs.view_is) (c.in_ok-chosen.ensures.chosen image regions named) a is)
