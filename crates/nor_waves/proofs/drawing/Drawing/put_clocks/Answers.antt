-- One clock more, a clock that is cut, and the last one.
use Rattle.std.proofs.Common.{◌≡◌, ◌∙◌, ◌+◌, ◌++◌, drop, get_or, refl, sym, ap, subst, arith}
use Rattle.std.specs.Io.KnownBytes.{Appends}
use Rattle.nor_base.specs.Device.{Cuts}
use Rattle.nor_base.proofs.DeviceLaws.{Writes-cut}
use Rattle.nor_waves.specs.Ticks.{lanes_in, clock_ticks, clocks_ticks, sample_at}
use Rattle.nor_waves.specs.Drawing.{after, drawn}
use Rattle.nor_waves.proofs.DrawLemmas.{none_drawn, more_drawn, cut_drawn, all_drawn, all_after, clock_left, no_clock_left}
use Rattle.nor_waves.proofs.drawing.Drawing.put_clocks.Goals as goal

pub loop-symbol-init : goal.loop-symbol-init
loop-symbol-init g c = record { drawn = none_drawn c.args.self _ _; few = omega arith; count = refl }

pub loop-symbol-preserved : goal.loop-symbol-preserved
loop-symbol-preserved g c =
    let bytes = c.args.expect.now in
    let place = c.loop-symbol.place in
    let symbol = get_or c.args.clocks.now c.loop-symbol.symbol-index 0 in
    let added : c.from-place.result ≡ lanes_in (sample_at symbol).sampled =
    c.from-place.ensures ∙ c.lanes_in.ensures.value ∙ ap (λ s. lanes_in s.sampled) c.sample_at-sample.ensures in
    let drawn_ticks : c.clock_ticks.result ≡ clock_ticks bytes place (sample_at symbol) = c.clock_ticks.ensures ∙ ap (clock_ticks bytes place) c.sample_at-sample.ensures in
    record {
      drawn = more_drawn _ _ _ _ c.loop-symbol.at _ c.loop-symbol.invariant.drawn _ _ (clock_ticks bytes place (sample_at symbol)) _
          (clock_left bytes place c.args.clocks.now c.loop-symbol.symbol-index c.loop-symbol-test.true
          ∙ ap (λ k. clock_ticks bytes place (sample_at symbol) ++ clocks_ticks bytes (place + k) (drop (c.loop-symbol.symbol-index + 1) c.args.clocks.now)) (sym added))
          (subst (λ l. Appends (g.W.ByteOut.held c.loop-symbol.out) (g.W.ByteOut.held c.put_ticks.new.out) (drawn c.loop-symbol.at l)) drawn_ticks c.in_ok-at.ensures.bytes)
          (c.in_ok-at.ensures.drawn ∙ ap (after c.loop-symbol.at) drawn_ticks);
      few = omega arith;
      count = c.in_ok-at.ensures.count ∙ c.loop-symbol.invariant.count;
    }

pub returns-in_err-at-clause-bytes : goal.returns-in_err-at-clause-bytes
returns-in_err-at-clause-bytes g c =
    let bytes = c.args.expect.now in
    let place = c.loop-symbol.place in
    let symbol = get_or c.args.clocks.now c.loop-symbol.symbol-index 0 in
    let drawn_ticks : c.clock_ticks.result ≡ clock_ticks bytes place (sample_at symbol) = c.clock_ticks.ensures ∙ ap (clock_ticks bytes place) c.sample_at-sample.ensures in
    Writes-cut _ _ _ _ c.from_residual.ensures.0
    (cut_drawn _ _ _ _ c.loop-symbol.at _ c.loop-symbol.invariant.drawn _ (clock_ticks bytes place (sample_at symbol)) _
    (clock_left bytes place c.args.clocks.now c.loop-symbol.symbol-index c.loop-symbol-test.true)
    (subst (λ l. Cuts (g.W.ByteOut.held c.loop-symbol.out) (g.W.ByteOut.held c.put_ticks.new.out) (drawn c.loop-symbol.at l)) drawn_ticks c.in_err-at.ensures.bytes))

pub returns-clause-bytes : goal.returns-clause-bytes
returns-clause-bytes g c =
    all_drawn _ _ _ _ _ _ c.loop-symbol.invariant.drawn (no_clock_left c.args.expect.now c.loop-symbol.place c.args.clocks.now c.loop-symbol.symbol-index (omega (arith, c.loop-symbol-test.false)))

pub returns-clause-drawn : goal.returns-clause-drawn
returns-clause-drawn g c =
    all_after _ _ _ _ _ _ c.loop-symbol.invariant.drawn (no_clock_left c.args.expect.now c.loop-symbol.place c.args.clocks.now c.loop-symbol.symbol-index (omega (arith, c.loop-symbol-test.false)))
