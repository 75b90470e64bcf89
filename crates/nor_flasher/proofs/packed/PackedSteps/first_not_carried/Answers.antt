-- One window more.
use Rattle.std.proofs.Common.{◌≡◌, ◌+◌, ◌-◌, ◌++◌, List, length, sym, ◌∙◌, ap, subst, append_assoc, arith, length-append}
use Rattle.std.proofs.lemmas.List.Elements.{All-append}
use Rattle.nor_base.specs.declared.step.Step.{Step}
use Rattle.nor_serprog.specs.Steps.{IsCarried, AreCarried, IsFirstNotCarried}
use Rattle.nor_flasher.proofs.StepsLemmas.{first_among, none_left}
use Rattle.nor_flasher.proofs.packed.PackedSteps.first_not_carried.Goals as goal

pub returns-in-Err : goal.returns-in-Err
returns-in-Err c =
    let so_far = c.loop-steps.invariant in
    let limits = c.args.limits.now in
    let window = c.in_ok-window.window.items in
    let later = c.next_window.new.self in
    let whole : c.args.self.now ≡ so_far.0 ++ (window ++ later) = so_far.1 ∙ ap (λ (l : List Step). so_far.0 ++ l) c.in_ok-window.ensures.next in
    let first : IsFirstNotCarried limits window c.in-Err.at = subst (λ (l : List Step). IsFirstNotCarried limits l c.in-Err.at) c.as_slice.ensures.value c.in-Err.ensures in
    let number : length so_far.0 + c.in-Err.at ≡ c.len.result - c.len-in-loop-steps.result + c.in-Err.at =
    omega (arith, c.len.ensures, c.len-in-loop-steps.ensures, ap length so_far.1, length-append so_far.0 c.loop-steps.steps) in
    subst (IsFirstNotCarried limits c.args.self.now) number
    (subst (λ (l : List Step). IsFirstNotCarried limits l (length so_far.0 + c.in-Err.at)) (sym whole) (first_among limits so_far.0 window later c.in-Err.at so_far.2 first))

pub loop-steps-preserved : goal.loop-steps-preserved
loop-steps-preserved c =
    let so_far = c.loop-steps.invariant in
    let limits = c.args.limits.now in
    let window = c.in_ok-window.window.items in
    let later = c.next_window.new.self in (
      so_far.0 ++ window,
      so_far.1 ∙ ap (λ (l : List Step). so_far.0 ++ l) c.in_ok-window.ensures.next ∙ sym (append_assoc so_far.0 window later),
      All-append (IsCarried limits) so_far.0 window so_far.2 (subst (AreCarried limits) c.as_slice.ensures.value c.in_default.ensures),
    )

pub returns : goal.returns
returns c = none_left (IsCarried c.args.limits.now) c.args.self.now c.loop-steps.invariant.0 c.loop-steps.steps c.loop-steps.invariant.1
    (sym c.has_more.ensures ∙ c.loop-steps-test.false) c.loop-steps.invariant.2
