-- Each window's steps, and then the last, were done.
use Rattle.std.proofs.Common.{◌≡◌, ◌+◌, List, All, drop, take, sym, ◌∙◌, ap, subst, arith, length, length-append}
use Rattle.std.proofs.Math.Seq.{drop-append_seam, take-append_seam}
use Rattle.std.proofs.lemmas.List.Elements.{All-drop, All-take}
use Rattle.nor_base.specs.declared.step.Step.{Step}
use Rattle.nor_base.specs.Wire.{wire}
use Rattle.nor_base.proofs.FaultLaws.{handed_on}
use Rattle.nor_serprog.specs.Done.{HasDoneAll, IsDoable}
use Rattle.norprog.specs.Stepper.{made, steps_by, update_of}
use Rattle.norprog_device.specs.Doing.{HaltsIn, Starved, StopsSteps, stop_at}
use Rattle.norprog_device.proofs.DoingLemmas.{done_last, rests, stops_in, stops_last}
use Rattle.norprog_flash.proofs.DoneLemmas.{all_parts, has_next, long_ahead, next_few, next_parts, none_ahead}
use Rattle.norprog_flash.proofs.windows.do_windows.Goals as goal

pub next_window-requires-clause-more : goal.next_window-requires-clause-more
next_window-requires-clause-more g c =
    let inv = c.loop-done.invariant in
    has_next (update_of c.args.steps.stepper) c.loop-done.stepper inv.ready inv.same (omega (arith, c.loop-done-test.true, inv.count, inv.all))

pub returns-in_default-clause-stopped : goal.returns-in_default-clause-stopped
returns-in_default-clause-stopped g c =
    let u = update_of c.args.steps.stepper in
    let s = c.loop-done.stepper in
    let inv = c.loop-done.invariant in
    let long = long_ahead u s inv.ready inv.same in
    Starved c.loop-done.done
    (rests c.args.doing.now _ _ (steps_by u) (made s) inv.ready.ahead inv.ready.leave c.loop-done.done (all_parts u s inv.ready inv.same) inv.count
    (omega (arith, long, c.loop-done-test.true, inv.count, inv.all)) inv.did)

pub do_window-requires-clause-few : goal.do_window-requires-clause-few
do_window-requires-clause-few g c =
    let few = next_few (update_of c.args.steps.stepper) c.loop-done.stepper c.next_window.new.self c.in-Ok.window.items c.in-Ok.ensures.made c.loop-done.invariant.same in
    omega (arith, few, c.loop-done.invariant.count, ap length c.as_slice.ensures.value, c.requires.all, c.args.steps.few)

pub do_window-requires-clause-form : goal.do_window-requires-clause-form
do_window-requires-clause-form g c =
    let u = update_of c.args.steps.stepper in
    let s = c.loop-done.stepper in
    let parts = next_parts u s c.next_window.new.self c.in-Ok.window.items c.in-Ok.ensures.made c.loop-done.invariant.same in
    let n = length (made s) in
    let k = length c.in-Ok.window.items in
    let those = ap (λ (l : List Step). take k (drop n l)) parts ∙ ap (take k) (drop-append_seam (made s) _) ∙ take-append_seam c.in-Ok.window.items _ in
    subst (All IsDoable) (those ∙ sym c.as_slice.ensures.value) (All-take IsDoable k _ (All-drop IsDoable n _ c.requires.form))

pub returns-in_err-do_window-clause-stopped : goal.returns-in_err-do_window-clause-stopped
returns-in_err-do_window-clause-stopped g c =
    let u = update_of c.args.steps.stepper in
    let s = c.loop-done.stepper in
    let inv = c.loop-done.invariant in
    let d = c.args.doing.now in
    handed_on (StopsSteps d _ _ (steps_by u)) _ _ c.from_residual.ensures.1
    (stops_in c.rows.ensures.halts d _ (wire (g.W.ByteOut.held c.loop-done.to) (g.R.ByteIn.ahead c.loop-done.from)) _ (steps_by u) (made s) c.in-Ok.window.items _ c.loop-done.done c.in_err-do_window.field-0.0
    (next_parts u s c.next_window.new.self c.in-Ok.window.items c.in-Ok.ensures.made inv.same) inv.count inv.did
    (subst (λ (xs : List Step). (halts : HaltsIn d (wire (g.W.ByteOut.held c.loop-done.to) (g.R.ByteIn.ahead c.loop-done.from)) (wire (g.W.ByteOut.held c.do_window.new.to) (g.R.ByteIn.ahead c.do_window.new.from)) xs)
    × (c.in_err-do_window.field-0.0 ≡ stop_at (c.loop-done.done + halts.halt.step) halts.why)) c.as_slice.ensures.value c.in_err-do_window.ensures.stopped))

pub overflow_add-done : goal.overflow_add-done
overflow_add-done g c =
    let few = next_few (update_of c.args.steps.stepper) c.loop-done.stepper c.next_window.new.self c.in-Ok.window.items c.in-Ok.ensures.made c.loop-done.invariant.same in
    omega (arith, few, c.loop-done.invariant.count, c.len.ensures, c.in-Ok.window.ok, c.requires.all, c.args.steps.few)

pub loop-done-preserved : goal.loop-done-preserved
loop-done-preserved g c =
    let inv = c.loop-done.invariant in
    let more = c.in-Ok.ensures.made in
    record {
      ready = more.ready;
      same = more.same ∙ inv.same;
      count = omega (arith, inv.count, c.len.ensures, c.in-Ok.window.ok, ap length more.those, length-append (made c.loop-done.stepper) c.in-Ok.window.items);
      all = inv.all;
      did = subst (HasDoneAll _ _ c.args.doing.now.limits c.args.doing.now.turns) (sym more.those)
          (c.rows.ensures.parts _ _ _ _ _ _ c.args.doing.now.limits c.args.doing.now.turns (made c.loop-done.stepper) c.in-Ok.window.items inv.did
          (subst (HasDoneAll (wire (g.W.ByteOut.held c.loop-done.to) (g.R.ByteIn.ahead c.loop-done.from)) (wire (g.W.ByteOut.held c.do_window.new.to) (g.R.ByteIn.ahead c.do_window.new.from)) c.args.doing.now.limits c.args.doing.now.turns)
          c.as_slice.ensures.value c.in_ok-do_window.ensures.done));
    }

pub do_window-requires-2-clause-few : goal.do_window-requires-2-clause-few
do_window-requires-2-clause-few g c =
    let s = c.loop-done.stepper in
    let inv = c.loop-done.invariant in
    let last = c.as_slice-last.result.now in
    let long = ap length (none_ahead (update_of c.args.steps.stepper) s last _ inv.ready inv.same (omega (arith, c.loop-done-test.false, inv.count, inv.all)) c.requires.seen.whole c.as_slice-last.ensures.value) in
    omega (arith, long, length-append (made s) last, inv.count, c.requires.all, c.args.steps.few)

pub do_window-requires-2-clause-form : goal.do_window-requires-2-clause-form
do_window-requires-2-clause-form g c =
    let s = c.loop-done.stepper in
    let inv = c.loop-done.invariant in
    let last = c.as_slice-last.result.now in
    let those = none_ahead (update_of c.args.steps.stepper) s last _ inv.ready inv.same (omega (arith, c.loop-done-test.false, inv.count, inv.all)) c.requires.seen.whole c.as_slice-last.ensures.value in
    let n = length (made s) in subst (All IsDoable) (ap (drop n) those ∙ drop-append_seam (made s) last) (All-drop IsDoable n _ c.requires.form)

pub returns-clause-done : goal.returns-clause-done
returns-clause-done g c =
    let s = c.loop-done.stepper in
    let inv = c.loop-done.invariant in
    let last = c.as_slice-last.result.now in
    let those = none_ahead (update_of c.args.steps.stepper) s last _ inv.ready inv.same (omega (arith, c.loop-done-test.false, inv.count, inv.all)) c.requires.seen.whole c.as_slice-last.ensures.value in
    done_last c.rows.ensures.parts c.args.doing.now _ _ _ (steps_by (update_of c.args.steps.stepper)) (made s) last c.do_window-2.result those inv.did
    c.do_window-2.ensures.done

pub returns-clause-stopped : goal.returns-clause-stopped
returns-clause-stopped g c =
    let s = c.loop-done.stepper in
    let inv = c.loop-done.invariant in
    let last = c.as_slice-last.result.now in
    let those = none_ahead (update_of c.args.steps.stepper) s last _ inv.ready inv.same (omega (arith, c.loop-done-test.false, inv.count, inv.all)) c.requires.seen.whole c.as_slice-last.ensures.value in
    stops_last c.rows.ensures.halts c.args.doing.now _ _ _ (steps_by (update_of c.args.steps.stepper)) (made s) last c.loop-done.done c.do_window-2.result those inv.count inv.did
    c.do_window-2.ensures.stopped
