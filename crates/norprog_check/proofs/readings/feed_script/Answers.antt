-- The verdict is that of the steps that came, to the end or to what stopped them.
use Rattle.std.proofs.Common.{◌++◌, ◌∷◌, [], true, false, Ok, refl, ◌∙◌, subst, arith, length-append}
use Rattle.nor_script.specs.Stream.{reading, Advances, CountsStep, StopsReader}
use Rattle.nor_script.proofs.StreamLaws.{has_begun, has_more}
use Rattle.nor_script.proofs.TextLaws.{stops_header, stops_step, stops_memory}
use Rattle.nor_base.proofs.FaultLaws.{handed_on}
use Rattle.norprog_check.proofs.ReadingLemmas.{fed_more, shown_more, feeds_all}
use Rattle.norprog_check.proofs.readings.feed_script.Goals as goal

pub returns-in_err-reader-clause-stopped : goal.returns-in_err-reader-clause-stopped
returns-in_err-reader-clause-stopped g c =
    handed_on (StopsReader _ _) c.from_residual.result _ c.from_residual.ensures.1
    (stops_header _ _ _ c.in_err-reader.ensures.begun)

pub loop-reader-init : goal.loop-reader-init
loop-reader-init g c = record {
  above = [];
  read = has_begun _ _ c.in_ok-reader.ensures.begun.0;
  number = c.in_ok-reader.ensures.begun.1;
  fed = c.requires.begins.0;
  size = refl;
  told = λ more. refl;
  shown = λ more v w h. h;
  count = c.in_ok-reader.ensures.count;
}

pub returns-in_err-advance-clause-stopped : goal.returns-in_err-advance-clause-stopped
returns-in_err-advance-clause-stopped g c =
    let v = c.loop-reader.invariant in
    handed_on (StopsReader _ _) c.from_residual-in_err-advance.result _ c.from_residual-in_err-advance.ensures.1
    (stops_step _ (reading (g.A.ByteIn.ahead c.loop-reader.script) c.loop-reader.reader.held) (reading (g.A.ByteIn.ahead c.advance.new.source) c.advance.new.self.held) v.above c.loop-reader.reader.steps c.advance.new.self.step _
    v.read v.number c.in_err-advance.ensures.step)

pub returns-in_err-feed-clause-stopped : goal.returns-in_err-feed-clause-stopped
returns-in_err-feed-clause-stopped g c =
    let v = c.loop-reader.invariant in
    let read : Advances (reading (g.A.ByteIn.ahead c.loop-reader.script) c.loop-reader.reader.held) (reading (g.A.ByteIn.ahead c.advance.new.source) c.advance.new.self.held) c.loop-reader.reader.steps c.advance.new.self.step (Ok true) =
    subst (λ b. Advances (reading (g.A.ByteIn.ahead c.loop-reader.script) c.loop-reader.reader.held) (reading (g.A.ByteIn.ahead c.advance.new.source) c.advance.new.self.held) c.loop-reader.reader.steps c.advance.new.self.step (Ok b)) c.if-branch.true c.in_ok-advance.ensures.step in
    handed_on (StopsReader _ _) c.from_residual-in_err-feed.result _ c.from_residual-in_err-feed.ensures.1
    (stops_memory _ (reading (g.A.ByteIn.ahead c.loop-reader.script) c.loop-reader.reader.held) (reading (g.A.ByteIn.ahead c.advance.new.source) c.advance.new.self.held) v.above c.advance.new.self.step _
    v.read read c.in_err-feed.ensures.refused)

pub loop-reader-preserved : goal.loop-reader-preserved
loop-reader-preserved g c =
    let v = c.loop-reader.invariant in
    let read : Advances (reading (g.A.ByteIn.ahead c.loop-reader.script) c.loop-reader.reader.held) (reading (g.A.ByteIn.ahead c.advance.new.source) c.advance.new.self.held) c.loop-reader.reader.steps c.advance.new.self.step (Ok true) =
    subst (λ b. Advances (reading (g.A.ByteIn.ahead c.loop-reader.script) c.loop-reader.reader.held) (reading (g.A.ByteIn.ahead c.advance.new.source) c.advance.new.self.held) c.loop-reader.reader.steps c.advance.new.self.step (Ok b)) c.if-branch.true c.in_ok-advance.ensures.step in
    let more : CountsStep c.loop-reader.reader.steps c.advance.new.self.steps (Ok true) = subst (λ b. CountsStep c.loop-reader.reader.steps c.advance.new.self.steps (Ok b)) c.if-branch.true c.in_ok-advance.ensures.number in record {
      above = v.above ++ c.advance.new.self.step ∷ [];
      read = has_more _ _ _ v.above c.advance.new.self.step v.read read.0 read.1;
      number = omega (arith, more, v.number, length-append v.above (c.advance.new.self.step ∷ []));
      fed = omega (arith, c.in_ok-feed.ensures.number, v.fed, length-append v.above (c.advance.new.self.step ∷ []));
      size = c.feed.ensures.size ∙ v.size;
      told = fed_more c.args.want.now _ _ _ v.above c.advance.new.self.step _ v.told c.view.ensures (c.in_ok-feed.ensures.fed c.args.want.now);
      shown = shown_more c.args.want.now _ _ _ v.above c.advance.new.self.step _ v.shown c.view.ensures (c.in_ok-feed.ensures.shown c.args.want.now);
      count = c.in_ok-advance.ensures.count ∙ v.count;
    }

pub returns-clause-told : goal.returns-clause-told
returns-clause-told g c =
    let v = c.loop-reader.invariant in
    let read : Advances (reading (g.A.ByteIn.ahead c.loop-reader.script) c.loop-reader.reader.held) (reading (g.A.ByteIn.ahead c.advance.new.source) c.advance.new.self.held) c.loop-reader.reader.steps c.advance.new.self.step (Ok false) =
    subst (λ b. Advances (reading (g.A.ByteIn.ahead c.loop-reader.script) c.loop-reader.reader.held) (reading (g.A.ByteIn.ahead c.advance.new.source) c.advance.new.self.held) c.loop-reader.reader.steps c.advance.new.self.step (Ok b)) c.if-branch.false c.in_ok-advance.ensures.step in
    feeds_all _ c.args.want.now c.args.checker c.loop-reader.checker (reading (g.A.ByteIn.ahead c.loop-reader.script) c.loop-reader.reader.held) (reading (g.A.ByteIn.ahead c.advance.new.source) c.advance.new.self.held) v.above c.loop-reader.reader.steps c.advance.new.self.step _ v.read v.number read v.told v.shown
    (c.number.ensures ∙ v.fed) c.verdict.ensures c.witness.ensures
