-- One tick more, a tick that is cut, and the last one.
use Rattle.std.proofs.Common.{◌∙◌, [], ◌∷◌, ◌+◌, drop, get_or, refl}
use Rattle.nor_base.proofs.DeviceLaws.{Writes-cut}
use Rattle.nor_waves.proofs.DrawLemmas.{none_drawn, more_drawn, cut_drawn, tick_left, one_put, one_cut, one_after, unset}
use Rattle.nor_waves.proofs.drawing.Drawing.put_ticks.Goals as goal

pub loop-now-init : goal.loop-now-init
loop-now-init g c = record { drawn = none_drawn c.args.self c.args.ticks.now _; count = refl }

pub loop-now-preserved : goal.loop-now-preserved
loop-now-preserved g c =
    let at = c.loop-now.at in
    let now = get_or c.args.ticks.now c.loop-now.now-index unset in
    record {
      drawn = more_drawn _ _ _ _ at _ c.loop-now.invariant.drawn _ _ (now ∷ []) (drop (c.loop-now.now-index + 1) c.args.ticks.now)
          (tick_left c.args.ticks.now c.loop-now.now-index _ c.loop-now-test.true)
          (one_put at now _ _ _ (c.as_slice.ensures.value ∙ c.changes-lines.ensures) c.in_ok-put_stamped.ensures.bytes) (one_after at now);
      count = c.in_ok-put_stamped.ensures.count ∙ c.loop-now.invariant.count;
    }

pub returns-in_err-put_stamped-clause-bytes : goal.returns-in_err-put_stamped-clause-bytes
returns-in_err-put_stamped-clause-bytes g c =
    let at = c.loop-now.at in
    let now = get_or c.args.ticks.now c.loop-now.now-index unset in
    Writes-cut _ _ _ _ c.from_residual.ensures.0
    (cut_drawn _ _ _ _ at _ c.loop-now.invariant.drawn _ (now ∷ []) (drop (c.loop-now.now-index + 1) c.args.ticks.now)
    (tick_left c.args.ticks.now c.loop-now.now-index _ c.loop-now-test.true)
    (one_cut at now _ _ _ (c.as_slice.ensures.value ∙ c.changes-lines.ensures) c.in_err-put_stamped.ensures.bytes))
