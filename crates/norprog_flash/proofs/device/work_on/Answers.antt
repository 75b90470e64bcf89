-- The work goes on so, by the steps that the steppers make.
use Rattle.std.proofs.Common.{◌≡◌, ℕ, Bool, List, ◌∙◌, ap, length, All, refl, sym, subst}
use Rattle.nor_base.specs.declared.step.Step.{Step}
use Rattle.nor_base.specs.Wire.{Wire, wire}
use Rattle.nor_reader.specs.declared.by.ReadBy.{ReadBy}
use Rattle.nor_serprog.specs.Done.{IsDoable}
use Rattle.nor_serprog.specs.Steps.{AreCarried}
use Rattle.norprog.specs.Stepper.{steps_by, update_of}
use Rattle.norprog_flash.specs.Survey.{IsUnbegun}
use Rattle.norprog_flash.specs.declared.survey.Unbegun.TheVariants.{Carried}
use Rattle.norprog_flash.specs.Begun.{Session, session}
use Rattle.norprog_flash.specs.Near.{may_go_on}
use Rattle.norprog_device.specs.declared.failure.Failure.TheVariants as failure
use Rattle.norprog_flash.specs.declared.ending.Ending.{Ending}
use Rattle.norprog_flash.specs.declared.ending.Ending.TheVariants.{Failed}
use Rattle.norprog_flash.specs.Worked.{Back, Cannot, Goes, GoesOn, WorksOut, doing_in, flashing, flashing_in}
use Rattle.norprog_flash.specs.Work.{Plan, plan_of}
use Rattle.norprog_flash.proofs.PlannedLemmas.{count_is, part_in_goal, steps_are, steps_doable}
use Rattle.norprog_flash.proofs.device.work_on.Goals as goal

-- the steps that were made are those of the plan, and a slice of its goal is that
of_plan : (s : Session) (before after : Wire) (p : Plan) (by : ReadBy) (ending : Ending) (steps : List Step) (bytes : List ℕ) (larger : Bool) → p.steps ≡ steps
    → bytes ≡ p.goal → larger ≡ may_go_on s.job
    → WorksOut (doing_in s) before after (flashing steps (record { bytes = bytes; part = s.reading.span; by = by; larger = larger })) ending
    → WorksOut (doing_in s) before after (flashing_in s p by) ending
of_plan s before after p by ending steps bytes larger those all same works =
    let back : List ℕ → Bool → Back = λ xs b. record { bytes = xs; part = s.reading.span; by = by; larger = b } in
    subst (λ (xs : List Step). WorksOut (doing_in s) before after (flashing xs (back p.goal (may_go_on s.job))) ending) (sym those)
    (subst (λ (b : Bool). WorksOut (doing_in s) before after (flashing steps (back p.goal b)) ending) same
    (subst (λ (xs : List ℕ). WorksOut (doing_in s) before after (flashing steps (back xs larger)) ending) all works))

pub returns-in-Err-Carried-clause-goes : goal.returns-in-Err-Carried-clause-goes
returns-in-Err-Carried-clause-goes g c = λ steps is.
    let s = session c.args.job.now c.args.limits.now c.args.held.now.reading in
    let those = steps_are s is.0 is.1 (plan_of c.args.work.now steps) is.2 is.3 c.new-stepper.result _ _ _ c.said_start-start.ensures c.as_slice-have.ensures.value c.as_slice-want.ensures.value c.new-stepper.ensures.update c.new-stepper.ensures.only in
    let before = wire (g.W.ByteOut.held c.args.to.now) (g.R.ByteIn.ahead c.args.from.now) in
    let p = plan_of c.args.work.now steps in
    subst (λ (n : ℕ). GoesOn s before before p (Failed n failure.Carried)) (sym c.in-Err-Carried.step-is)
    (Cannot c.in-Err-Carried.step (subst (λ (xs : List Step). IsUnbegun c.args.limits.now xs (Carried c.in-Err-Carried.step)) (sym those)
    (subst (IsUnbegun c.args.limits.now (steps_by (update_of c.new-stepper.result))) c.in-Err-Carried.field-0-is c.in-Err-Carried.ensures.unbegun)) refl)

pub do_work-requires-clause-all : goal.do_work-requires-clause-all
do_work-requires-clause-all g c =
    let s = session c.args.job.now c.args.limits.now c.args.held.now.reading in
    let steps = c.requires.planned.0 in
    let is = c.requires.planned.1 in
    count_is s is.0 is.1 (plan_of c.args.work.now steps) is.2 is.3
    ∙ ap length (steps_are s is.0 is.1 (plan_of c.args.work.now steps) is.2 is.3 c.new.result _ _ _ c.said_start-start.ensures c.as_slice-have.ensures.value c.as_slice-want.ensures.value c.new.ensures.update c.new.ensures.only)

pub do_work-requires-clause-form : goal.do_work-requires-clause-form
do_work-requires-clause-form g c =
    let s = session c.args.job.now c.args.limits.now c.args.held.now.reading in
    let steps = c.requires.planned.0 in
    let is = c.requires.planned.1 in
    subst (All IsDoable) (steps_are s is.0 is.1 (plan_of c.args.work.now steps) is.2 is.3 c.new.result _ _ _ c.said_start-start.ensures c.as_slice-have.ensures.value c.as_slice-want.ensures.value c.new.ensures.update c.new.ensures.only)
    (steps_doable s is.0 is.1 (plan_of c.args.work.now steps) is.2 is.3 c.doable.ensures.doable)

pub do_work-requires-clause-part : goal.do_work-requires-clause-part
do_work-requires-clause-part g c =
    let s = session c.args.job.now c.args.limits.now c.args.held.now.reading in
    let is = c.requires.planned.1 in
    rw c.as_slice-want.ensures.value
    (part_in_goal s is.0 is.1 (plan_of c.args.work.now c.requires.planned.0) is.2 is.3 c.args.held.now.by c.may_go_on.result)

pub returns-clause-goes : goal.returns-clause-goes
returns-clause-goes g c = λ steps is.
    let s = session c.args.job.now c.args.limits.now c.args.held.now.reading in
    let p = plan_of c.args.work.now steps in
    let those = steps_are s is.0 is.1 p is.2 is.3 c.new.result _ _ _ c.said_start-start.ensures c.as_slice-have.ensures.value c.as_slice-want.ensures.value c.new.ensures.update c.new.ensures.only in
    let first = steps_are s is.0 is.1 p is.2 is.3 c.new-stepper.result _ _ _ c.said_start-start.ensures c.as_slice-have.ensures.value c.as_slice-want.ensures.value c.new-stepper.ensures.update c.new-stepper.ensures.only in
    Goes c.args.held.now.by c.do_work.result c.requires.way (subst (AreCarried c.args.limits.now) (sym first) c.in-Ok.ensures.seen.carried)
    (of_plan s _ _ p c.args.held.now.by c.do_work.result _ _ _ those c.as_slice-want.ensures.value c.may_go_on.ensures c.do_work.ensures.ends)
