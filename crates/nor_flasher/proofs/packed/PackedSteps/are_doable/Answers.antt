-- One window more.
use Rattle.std.proofs.Common.{◌≡◌, ◌++◌, List, sym, ◌∙◌, ap, subst, append_assoc}
use Rattle.std.specs.Prelude.{All}
use Rattle.std.proofs.lemmas.Bool.{false≢true}
use Rattle.std.proofs.lemmas.List.Elements.{All-append}
use Rattle.nor_base.specs.declared.step.Step.{Step}
use Rattle.nor_serprog.specs.Done.{IsDoable}
use Rattle.nor_flasher.proofs.StepsLemmas.{all_first, all_second}
use Rattle.nor_flasher.proofs.packed.PackedSteps.are_doable.Goals as goal

pub returns-then-not-are_doable : goal.returns-then-not-are_doable
returns-then-not-are_doable c =
    let so_far = c.loop-steps.invariant in
    let window = c.in_ok-window.window.items in
    let later = c.next_window.new.self in
    let whole : c.args.self.now ≡ so_far.0 ++ (window ++ later) = so_far.1 ∙ ap (λ (l : List Step). so_far.0 ++ l) c.in_ok-window.ensures.next in
    let these = λ (all : All IsDoable c.args.self.now). subst (All IsDoable) (sym c.as_slice.ensures.value)
    (all_first IsDoable window later (all_second IsDoable so_far.0 (window ++ later) (subst (All IsDoable) whole all))) in
    (λ is. absurd (false≢true is), λ all. sym c.if-not-are_doable.true ∙ c.are_doable.ensures.1 (these all))

pub loop-steps-preserved : goal.loop-steps-preserved
loop-steps-preserved c =
    let so_far = c.loop-steps.invariant in
    let window = c.in_ok-window.window.items in
    let later = c.next_window.new.self in (
      so_far.0 ++ window,
      so_far.1 ∙ ap (λ (l : List Step). so_far.0 ++ l) c.in_ok-window.ensures.next ∙ sym (append_assoc so_far.0 window later),
      All-append IsDoable so_far.0 window so_far.2 (subst (All IsDoable) c.as_slice.ensures.value (c.are_doable.ensures.0 c.if-not-are_doable.false)),
    )
