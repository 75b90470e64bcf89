-- The work of the narrowed task.
use Rattle.std.proofs.Common.{◌≡◌, ◌⊎◌, ◌∙◌, ℕ, List, ap, length, sym, subst, arith, refl}
use Rattle.nor_base.proofs.FaultLaws.{handed_on}
use Rattle.nor_job.specs.declared.fault.BuildFault.TheVariants.{Memory}
use Rattle.nor_job.specs.Task.{Task}
use Rattle.norprog_flash.specs.Narrowed.{SpansDifference}
use Rattle.norprog_flash.specs.Refused.{RefusesWork, StopsPlanning}
use Rattle.norprog_flash.specs.Work.{HasPlan}
use Rattle.norprog_flash.proofs.WorkLemmas.{planning_refused, work_is}
use Rattle.norprog_flash.proofs.planned.resumed_work.Goals as goal

pub difference-requires-clause-lengths : goal.difference-requires-clause-lengths
difference-requires-clause-lengths c = c.requires.sizes ∙ (sym c.in_ok-goal.ensures.goal.size ∙ ap length (sym c.as_slice.ensures.value))

pub difference-requires-clause-few : goal.difference-requires-clause-few
difference-requires-clause-few c =
    let few = c.in_ok-goal.ensures.goal.few in
    let alike = c.requires.sizes in
    omega (arith, few, alike)

pub returns-in_err-lines-clause-refused : goal.returns-in_err-lines-clause-refused
returns-in_err-lines-clause-refused c =
    let t = c.args.inputs.now in
    let content = c.args.content.now in
    let image = c.in_ok-image.image in
    let why = c.in_err-lines.field-0.0 in
    let task = c.narrowed-narrow.ensures in
    handed_on (RefusesWork t content c.args.old.now) _ why c.from_residual-in_err-lines.ensures.1
    (planning_refused c.targets.ensures.keeps c.targets.ensures.gives t content c.args.old.now image
    c.in_ok-goal.goal c.in_ok-goal.ensures.goal c.requires.sizes
    (subst (λ (w : List ℕ). SpansDifference content w image) c.as_slice.ensures.value c.in_ok-image.ensures.spans) why
    (subst (λ (x : Task). StopsPlanning x content content why ⊎ (why ≡ Memory)) task c.in_err-lines.ensures.stops))

pub returns-clause-work : goal.returns-clause-work
returns-clause-work c =
    let t = c.args.inputs.now in
    let content = c.args.content.now in
    let image = c.in_ok-image.image in
    work_is c.targets.ensures.keeps c.targets.ensures.gives t content c.args.old.now image
    c.in_ok-goal.goal c.in_ok-goal.ensures.goal c.requires.sizes
    (subst (λ (w : List ℕ). SpansDifference content w image) c.as_slice.ensures.value c.in_ok-image.ensures.spans)
    c.in_ok-lines.lines.items c.in_ok-lines.report
    (subst (λ (x : Task). HasPlan x content c.in_ok-lines.lines.items c.in_ok-lines.report) c.narrowed-narrow.ensures c.in_ok-lines.ensures.plan) _ refl
