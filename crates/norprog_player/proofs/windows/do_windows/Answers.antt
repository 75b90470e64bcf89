-- One window more; where the device halts in it, or memory is refused for it.
use Rattle.std.proofs.Common.{◌≡◌, ◌+◌, ◌-◌, [], ◌++◌, ◌∙◌, All, ap, drop, refl, sym, append_assoc, append-nil, subst, take, arith, length, length-append, List}
use Rattle.std.proofs.Math.Seq.{drop-append_seam, take-append_seam}
use Rattle.std.proofs.lemmas.List.Elements.{All-drop, All-take}
use Rattle.nor_base.proofs.FaultLaws.{handed_on}
use Rattle.nor_base.specs.Wire.{wire}
use Rattle.nor_base.specs.declared.step.Step.{Step}
use Rattle.nor_serprog.specs.Done.{HasDoneAll, IsDoable}
use Rattle.norprog_device.proofs.DoingLemmas.{rests, stops_in}
use Rattle.norprog_device.specs.Doing.{HaltsIn, Starved, StopsSteps, stop_at}
use Rattle.norprog_player.proofs.WindowLemmas.{none_ahead, one_more, place_of, some_ahead}
use Rattle.norprog_player.proofs.windows.do_windows.Goals as goal

pub loop-ahead-init : goal.loop-ahead-init
loop-ahead-init g c = ([], sym c.unpack-ahead.ensures, (refl, refl))

pub returns-in_default-clause-stopped : goal.returns-in_default-clause-stopped
returns-in_default-clause-stopped g c =
    let v = c.loop-ahead.invariant in
    let ahead = c.loop-ahead.ahead in
    Starved _ (rests c.args.doing.now _ _ c.args.steps.now v.0 ahead [] _ (v.1 ∙ ap (λ (l : List Step). v.0 ++ l) (sym (append-nil ahead)))
    (let place = place_of c.args.steps.now v.0 ahead v.1 in omega (arith, place, c.len.ensures, c.len-in-loop-ahead.ensures))
    (some_ahead ahead _ c.has_more.ensures c.loop-ahead-test.true) v.2)

pub do_window-requires-clause-few : goal.do_window-requires-clause-few
do_window-requires-clause-few g c =
    let v = c.loop-ahead.invariant in
    let window = c.in-Ok.window.items in
    let parts = ap length v.1 in
    let next = ap length c.in-Ok.ensures.next in
    omega (
      arith,
      parts,
      next,
      length-append v.0 c.loop-ahead.ahead,
      length-append window c.next_window.new.self,
      ap length c.as_slice.ensures.value,
      c.len.ensures,
      c.len.type_inv,
      c.len-in-loop-ahead.ensures,
    )

pub do_window-requires-clause-form : goal.do_window-requires-clause-form
do_window-requires-clause-form g c =
    let v = c.loop-ahead.invariant in
    let window = c.in-Ok.window.items in
    let parts = one_more c.args.steps.now v.0 c.loop-ahead.ahead window c.next_window.new.self v.1 c.in-Ok.ensures.next in
    let n = length v.0 in
    let k = length window in
    let those = ap (λ (l : List Step). take k (drop n l)) parts ∙ ap (take k) (drop-append_seam v.0 _) ∙ take-append_seam window _ in
    subst (All IsDoable) (those ∙ sym c.as_slice.ensures.value) (All-take IsDoable k _ (All-drop IsDoable n _ c.requires.form))

pub returns-in_err-do_window-clause-stopped : goal.returns-in_err-do_window-clause-stopped
returns-in_err-do_window-clause-stopped g c =
    let v = c.loop-ahead.invariant in
    let d = c.args.doing.now in
    let stop = c.in_err-do_window.field-0.0 in
    let done = c.len.result - c.len-in-loop-ahead.result in
    let mid = wire (g.W.ByteOut.held c.loop-ahead.to) (g.R.ByteIn.ahead c.loop-ahead.from) in
    let after = wire (g.W.ByteOut.held c.do_window.new.to) (g.R.ByteIn.ahead c.do_window.new.from) in
    let place = place_of c.args.steps.now v.0 c.loop-ahead.ahead v.1 in
    handed_on (StopsSteps d _ _ c.args.steps.now) _ _ c.from_residual.ensures.1
    (stops_in c.rows.ensures.halts d _ mid _ c.args.steps.now v.0 c.in-Ok.window.items _ done stop
    (one_more c.args.steps.now v.0 c.loop-ahead.ahead c.in-Ok.window.items c.next_window.new.self v.1 c.in-Ok.ensures.next)
    (omega (arith, place, c.len.ensures, c.len-in-loop-ahead.ensures)) v.2
    (subst (λ (xs : List Step). (halts : HaltsIn d mid after xs) × (stop ≡ stop_at (done + halts.halt.step) halts.why)) c.as_slice.ensures.value
    c.in_err-do_window.ensures.stopped))

pub loop-ahead-preserved : goal.loop-ahead-preserved
loop-ahead-preserved g c =
    let v = c.loop-ahead.invariant in
    let window = c.in-Ok.window.items in
    let later = c.next_window.new.self in (
      v.0 ++ window,
      one_more c.args.steps.now v.0 c.loop-ahead.ahead window later v.1 c.in-Ok.ensures.next ∙ sym (append_assoc v.0 window later),
      c.rows.ensures.parts _ _ _ _ _ _ c.args.doing.now.limits c.args.doing.now.turns v.0 window v.2
          (subst (HasDoneAll (wire (g.W.ByteOut.held c.loop-ahead.to) (g.R.ByteIn.ahead c.loop-ahead.from)) (wire (g.W.ByteOut.held c.do_window.new.to) (g.R.ByteIn.ahead c.do_window.new.from)) c.args.doing.now.limits c.args.doing.now.turns)
          c.as_slice.ensures.value c.in_ok-do_window.ensures.done),
    )

pub returns-clause-done : goal.returns-clause-done
returns-clause-done g c =
    let v = c.loop-ahead.invariant in
    subst (HasDoneAll _ _ c.args.doing.now.limits c.args.doing.now.turns)
    (sym (v.1 ∙ ap (λ (l : List Step). v.0 ++ l) (none_ahead _ _ c.has_more.ensures c.loop-ahead-test.false) ∙ append-nil v.0)) v.2
