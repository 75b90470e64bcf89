-- Each window's steps, and then the last, were looked at.
use Rattle.std.proofs.Common.{◌≡◌, ◌++◌, [], List, sym, ◌∙◌, ap, subst, arith, length, append-nil, length-append}
use Rattle.nor_base.specs.declared.step.Step.{Step}
use Rattle.nor_base.proofs.FaultLaws.{handed_on}
use Rattle.nor_serprog.specs.Steps.{AreCarried, IsFirstNotCarried}
use Rattle.norprog.specs.Stepper.{made, steps_by, update_of}
use Rattle.norprog.specs.Update.{Update}
use Rattle.norprog_flash.specs.Survey.{IsUnbegun}
use Rattle.norprog_flash.proofs.DoneLemmas.{at_end, carried_more, first_shifts, next_few, next_parts, surveyed}
use Rattle.norprog_flash.proofs.survey.look_through.Goals as goal

pub look-requires : goal.look-requires
look-requires c =
    let u = update_of c.args.stepper in
    let few = next_few u c.loop-stepper.stepper c.next_window.new.self c.in_ok-steps.steps.items c.in_ok-steps.ensures.made c.loop-stepper.invariant.same in
    record { few = omega (arith, few, c.loop-stepper.invariant.count, ap length c.as_slice.ensures.value, c.requires.all, c.ranges.all.fits) }

pub returns-in_err-look-clause-unbegun : goal.returns-in_err-look-clause-unbegun
returns-in_err-look-clause-unbegun c =
    let u = update_of c.args.stepper in
    let its = c.in_err-look.ensures.none in
    handed_on (IsUnbegun c.args.limits.now (steps_by u)) _ _ c.from_residual-in_err-look.ensures.1
    (subst (IsUnbegun c.args.limits.now (steps_by u)) (sym its.2)
    (first_shifts c.args.limits.now (steps_by u) (made c.loop-stepper.stepper) c.in_ok-steps.steps.items _ c.loop-stepper.seen its.0
    (next_parts u c.loop-stepper.stepper c.next_window.new.self c.in_ok-steps.steps.items c.in_ok-steps.ensures.made c.loop-stepper.invariant.same) c.loop-stepper.invariant.count
    c.loop-stepper.invariant.carried (subst (λ (xs : List Step). IsFirstNotCarried c.args.limits.now xs its.0) c.as_slice.ensures.value its.1)))

pub overflow_add-seen : goal.overflow_add-seen
overflow_add-seen c =
    let u = update_of c.args.stepper in
    let few = next_few u c.loop-stepper.stepper c.next_window.new.self c.in_ok-steps.steps.items c.in_ok-steps.ensures.made c.loop-stepper.invariant.same in
    omega (arith, few, c.loop-stepper.invariant.count, c.len.ensures, c.in_ok-steps.steps.ok, c.requires.all, c.ranges.all.fits)

pub loop-stepper-preserved : goal.loop-stepper-preserved
loop-stepper-preserved c =
    let more = c.in_ok-steps.ensures.made in
    record {
      ready = more.ready;
      same = more.same ∙ c.loop-stepper.invariant.same;
      count = omega (arith, c.loop-stepper.invariant.count, c.len.ensures, c.in_ok-steps.steps.ok, ap length more.those, length-append (made c.loop-stepper.stepper) c.in_ok-steps.steps.items);
      carried = carried_more c.args.limits.now c.loop-stepper.stepper c.next_window.new.self c.in_ok-steps.steps.items more c.loop-stepper.invariant.carried
          (subst (AreCarried c.args.limits.now) c.as_slice.ensures.value c.in_ok-look.ensures.all);
    }

pub returns-in_err-look-2-clause-unbegun : goal.returns-in_err-look-2-clause-unbegun
returns-in_err-look-2-clause-unbegun c =
    let u = update_of c.args.stepper in
    let s = c.loop-stepper.stepper in
    let last = c.in_ok-last.last.items in
    let its = c.in_err-look-2.ensures.none in
    let those : steps_by u ≡ made s ++ (last ++ []) =
    subst (λ (v : Update). steps_by v ≡ made s ++ (last ++ [])) c.loop-stepper.invariant.same (c.in_ok-last.ensures.whole ∙ ap (λ (l : List Step). made s ++ l) (sym (append-nil last))) in
    handed_on (IsUnbegun c.args.limits.now (steps_by u)) _ _ c.from_residual-in_err-look-2.ensures.1
    (subst (IsUnbegun c.args.limits.now (steps_by u)) (sym its.2)
    (first_shifts c.args.limits.now (steps_by u) (made s) last [] c.loop-stepper.seen its.0 those c.loop-stepper.invariant.count c.loop-stepper.invariant.carried
    (subst (λ (xs : List Step). IsFirstNotCarried c.args.limits.now xs its.0) c.as_slice-2.ensures.value its.1)))

pub returns-clause-seen : goal.returns-clause-seen
returns-clause-seen c =
    surveyed c.args.limits.now (update_of c.args.stepper) c.loop-stepper.stepper c.in_ok-last.last.items c.loop-stepper.invariant.same
    (at_end c.loop-stepper.stepper c.loop-stepper.invariant.ready (sym c.has_more.ensures ∙ c.loop-stepper-test.false)) c.in_ok-last.ensures.whole c.loop-stepper.invariant.carried
    (subst (AreCarried c.args.limits.now) c.as_slice-2.ensures.value c.in_ok-look-2.ensures.all)
