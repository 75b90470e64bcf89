-- The steps of one window more.
use Rattle.std.proofs.Common.{[], ◌++◌, ◌∙◌, ap, sym, append_assoc, append-nil, subst, List}
use Rattle.nor_base.specs.declared.step.Step.{Step}
use Rattle.nor_cells.specs.Touched.{HasTouched}
use Rattle.norprog_player.proofs.WindowLemmas.{none_ahead}
use Rattle.norprog_player.proofs.device.touched_cells.Goals as goal

pub loop-ahead-init : goal.loop-ahead-init
loop-ahead-init c = ([], sym c.unpack-ahead.ensures, c.in_ok-cells.ensures)

pub loop-ahead-preserved : goal.loop-ahead-preserved
loop-ahead-preserved c =
    let v = c.loop-ahead.invariant in (
      v.0 ++ c.in_ok-window.window.items,
      v.1 ∙ ap (λ l. v.0 ++ l) c.in_ok-window.ensures.next ∙ sym (append_assoc v.0 c.in_ok-window.window.items c.next_window.new.self),
      subst (λ (l : List Step). HasTouched c.args.course.now.meaning.now c.args.course.now.expected.start (v.0 ++ l) c.touch.new.self) c.as_slice.ensures.value (c.touch.ensures _ _ v.0 v.2),
    )

pub returns : goal.returns
returns c =
    let v = c.loop-ahead.invariant in
    subst (λ (l : List Step). HasTouched c.args.course.now.meaning.now c.args.course.now.expected.start l c.loop-ahead.cells)
    (sym (v.1 ∙ ap (λ l. v.0 ++ l) (none_ahead _ _ c.has_more.ensures c.loop-ahead-test.false) ∙ append-nil v.0)) v.2
