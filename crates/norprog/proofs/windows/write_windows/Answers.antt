-- One window more follows those before.
use Rattle.std.proofs.Common.{◌≡◌, ◌+◌, ◌-◌, ◌<◌, ◌∙◌, min, length, take, drop, refl, sym, ap, subst, arith, length-append, length-drop}
use Rattle.std.proofs.lemmas.List.{length-take-le}
use Rattle.std.proofs.Math.Nat.{zero-mod}
use Rattle.nor_job.specs.declared.job.Job.{Job}
use Rattle.nor_steps.specs.Texts.{UnitText}
use Rattle.nor_base.specs.Wire.{wire}
use Rattle.norprog.specs.Windows.{first_writing, progress, window_of, IsDone, StopsWindow}
use Rattle.nor_base.proofs.FaultLaws.{handed_on}
use Rattle.norprog.proofs.Content.Places.{place_is}
use Rattle.norprog.proofs.Content.Windows.{none_done, done_then, done_then_cut}
use Rattle.norprog.proofs.windows.write_windows.Goals as goal

pub loop-at-init : goal.loop-at-init
loop-at-init g c = record {
  done = subst (IsDone (g.T.WorkWriter.unit_text c.args.writer.now) (window_of c.args.job.now 0 0) (progress (first_writing c.args.job.now) (g.W.ByteOut.held c.args.out.now) (g.R.ByteIn.ahead c.args.content.now)) (progress (g.T.WorkWriter.writing c.args.writer.now) (g.W.ByteOut.held c.args.out.now) (g.R.ByteIn.ahead c.args.content.now)))
      (sym c.none-told.ensures) (none_done (g.T.WorkWriter.unit_text c.args.writer.now) c.args.job.now (g.T.WorkWriter.writing c.args.writer.now) (g.R.ByteIn.ahead c.args.content.now) (g.W.ByteOut.held c.args.out.now) c.requires.job.1);
  text = refl;
  room = refl;
  room' = c.requires.window.1;
  size = refl;
  aligned = λ before. zero-mod (length c.args.have.now);
  within = omega arith;
  reads = refl;
  writes = refl;
}

pub returns-in_err-more-clause-cut : goal.returns-in_err-more-clause-cut
returns-in_err-more-clause-cut g c =
    let m = c.args.job.now.meaning in
    let size = ap (λ (v : Job). v.meaning.size) c.job.view_is in
    let before : c.loop-at.at < m.size = omega (arith, c.loop-at-test.true, size) in
    let place = place_is m (length c.args.have.now) c.loop-at.at c.min-count.result c.requires.job.0 c.requires.window.0 before (c.loop-at.invariant.aligned before) (c.min-count.ensures ∙ ap (λ n. min (length c.args.have.now) (n - c.loop-at.at)) size) in
    let took : length (take c.min-count.result c.loop-at.have) ≡ c.min-count.result = length-take-le c.min-count.result c.loop-at.have (omega (arith, place.few, c.loop-at.invariant.room)) in
    handed_on _ _ _ c.from_residual.ensures.1
    (done_then_cut (g.T.WorkWriter.unit_text c.args.writer.now) c.args.job.now (g.T.WorkWriter.writing c.loop-at.writer) c.loop-at.at c.min-count.result (length c.args.have.now) _ _ _ _ _ _ c.loop-at.told c.in_err-more.field-0.0 place c.loop-at.invariant.done
    (subst (λ n. StopsWindow (g.T.WorkWriter.unit_text c.args.writer.now) (window_of c.args.job.now c.loop-at.at n) (progress (g.T.WorkWriter.writing c.loop-at.writer) (g.W.ByteOut.held c.loop-at.out) (g.R.ByteIn.ahead c.loop-at.content)) (wire (g.W.ByteOut.held c.write_window.new.out) (g.R.ByteIn.ahead c.write_window.new.content)) c.in_err-more.field-0.0)
    took (subst (λ (ut : UnitText). StopsWindow ut (window_of c.args.job.now c.loop-at.at (length (take c.min-count.result c.loop-at.have))) (progress (g.T.WorkWriter.writing c.loop-at.writer) (g.W.ByteOut.held c.loop-at.out) (g.R.ByteIn.ahead c.loop-at.content)) (wire (g.W.ByteOut.held c.write_window.new.out) (g.R.ByteIn.ahead c.write_window.new.content)) c.in_err-more.field-0.0)
    c.loop-at.invariant.text c.in_err-more.ensures.stopped)))

pub loop-at-preserved : goal.loop-at-preserved
loop-at-preserved g c =
    let m = c.args.job.now.meaning in
    let size = ap (λ (v : Job). v.meaning.size) c.job.view_is in
    let before : c.loop-at.at < m.size = omega (arith, c.loop-at-test.true, size) in
    let place = place_is m (length c.args.have.now) c.loop-at.at c.min-count.result c.requires.job.0 c.requires.window.0 before (c.loop-at.invariant.aligned before) (c.min-count.ensures ∙ ap (λ n. min (length c.args.have.now) (n - c.loop-at.at)) size) in
    let took : length (take c.min-count.result c.loop-at.have) ≡ c.min-count.result = length-take-le c.min-count.result c.loop-at.have (omega (arith, place.few, c.loop-at.invariant.room)) in
    let took' : length (take c.min-count.result c.loop-at.want) ≡ c.min-count.result = length-take-le c.min-count.result c.loop-at.want (omega (arith, place.few, c.loop-at.invariant.room')) in
    record {
      done = subst (IsDone (g.T.WorkWriter.unit_text c.args.writer.now) (window_of c.args.job.now 0 (c.loop-at.at + c.min-count.result)) (progress (first_writing c.args.job.now) (g.W.ByteOut.held c.args.out.now) (g.R.ByteIn.ahead c.args.content.now)) (progress (g.T.WorkWriter.writing c.write_window.new.writer) (g.W.ByteOut.held c.write_window.new.out) (g.R.ByteIn.ahead c.write_window.new.content)))
          (sym c.plus-told.ensures)
          (done_then (g.T.WorkWriter.unit_text c.args.writer.now) c.args.job.now (g.T.WorkWriter.writing c.loop-at.writer) (g.T.WorkWriter.writing c.write_window.new.writer) c.loop-at.at c.min-count.result (length c.args.have.now) _ _ _ _ _ _ c.loop-at.told c.in_ok-more.more place c.loop-at.invariant.done
          (subst (λ n. IsDone (g.T.WorkWriter.unit_text c.args.writer.now) (window_of c.args.job.now c.loop-at.at n) (progress (g.T.WorkWriter.writing c.loop-at.writer) (g.W.ByteOut.held c.loop-at.out) (g.R.ByteIn.ahead c.loop-at.content)) (progress (g.T.WorkWriter.writing c.write_window.new.writer) (g.W.ByteOut.held c.write_window.new.out) (g.R.ByteIn.ahead c.write_window.new.content)) c.in_ok-more.more)
          took (subst (λ (ut : UnitText). IsDone ut (window_of c.args.job.now c.loop-at.at (length (take c.min-count.result c.loop-at.have))) (progress (g.T.WorkWriter.writing c.loop-at.writer) (g.W.ByteOut.held c.loop-at.out) (g.R.ByteIn.ahead c.loop-at.content)) (progress (g.T.WorkWriter.writing c.write_window.new.writer) (g.W.ByteOut.held c.write_window.new.out) (g.R.ByteIn.ahead c.write_window.new.content)) c.in_ok-more.more)
          c.loop-at.invariant.text c.in_ok-more.ensures.done)));
      text = c.in_ok-more.ensures.text ∙ c.loop-at.invariant.text;
      room = length-append c.write_window.new.have (drop c.min-count.result c.loop-at.have) ∙ omega (arith, length-drop c.min-count.result c.loop-at.have, c.write_window.auto.have, took, place.few, c.loop-at.invariant.room);
      room' = length-append c.write_window.new.want (drop c.min-count.result c.loop-at.want) ∙ omega (arith, length-drop c.min-count.result c.loop-at.want, c.write_window.auto.want, took', place.few, c.loop-at.invariant.room');
      size = refl;
      aligned = place.aligned;
      within = place.inside;
      reads = c.in_ok-more.ensures.counts.0 ∙ c.loop-at.invariant.reads;
      writes = c.in_ok-more.ensures.counts.1 ∙ c.loop-at.invariant.writes;
    }
