-- What was read to the end was played; and why it wasn't read to the end.
use Rattle.std.proofs.Common.{◌++◌, ◌∷◌, [], true, false, Ok, sym, ◌∙◌, subst, arith, length-append}
use Rattle.nor_play.specs.Fed.{Player}
use Rattle.nor_play.proofs.FedLaws.{IsFed, fed_none}
use Rattle.nor_script.specs.Stream.{reading, Advances, CountsStep, StopsReader}
use Rattle.nor_script.proofs.StreamLaws.{has_begun, has_more}
use Rattle.nor_base.proofs.FaultLaws.{handed_on}
use Rattle.nor_script.proofs.TextLaws.{stops_header, stops_step, stops_memory}
use Rattle.norprog_common.proofs.ReadingLemmas.{header_gave, more_gave, step_gave}
use Rattle.norprog_run.proofs.StepsLemmas.{Stands, stands_next, fed_of, kept_of, all_played, went_wrong}
use Rattle.norprog_run.proofs.steps.play_text.Goals as goal

pub returns-in_err-reader-clause-refused : goal.returns-in_err-reader-clause-refused
returns-in_err-reader-clause-refused g c =
    let first = g.A.ByteIn.ahead c.args.script.now in
    let now = g.A.ByteIn.ahead c.begin.new.source in
    handed_on (StopsReader first now) c.from_residual.result c.in_err-reader.field-0.0 c.from_residual.ensures.1
    (stops_header first now c.in_err-reader.field-0.0 c.in_err-reader.ensures.begun)

pub loop-reader-init : goal.loop-reader-init
loop-reader-init g c =
    let none = c.in_ok-reader.ensures.begun.1 in
    record {
      above = [];
      read = has_begun _ _ c.in_ok-reader.ensures.begun.0;
      number = none;
      stands = subst (λ (p : Player). IsFed c.args.chip.now c.args.chip.now c.args.limit [] p) (sym c.new-player.ensures) (fed_none c.args.chip.now c.args.limit);
      few = omega (arith, none);
      count = c.in_ok-reader.ensures.count;
    }

pub returns-in_err-advance-clause-refused : goal.returns-in_err-advance-clause-refused
returns-in_err-advance-clause-refused g c =
    let v = c.loop-reader.invariant in
    let first = g.A.ByteIn.ahead c.args.script.now in
    let now = g.A.ByteIn.ahead c.advance.new.source in
    handed_on (StopsReader first now) c.from_residual-in_err-advance.result c.in_err-advance.field-0.0 c.from_residual-in_err-advance.ensures.1
    (stops_step first (reading (g.A.ByteIn.ahead c.loop-reader.script) c.loop-reader.reader.held) (reading now c.advance.new.self.held) v.above c.loop-reader.reader.steps
    c.advance.new.self.step c.in_err-advance.field-0.0 v.read v.number c.in_err-advance.ensures.step)

pub returns-in_err-wrong-clause-refused : goal.returns-in_err-wrong-clause-refused
returns-in_err-wrong-clause-refused g c =
    let v = c.loop-reader.invariant in
    let first = g.A.ByteIn.ahead c.args.script.now in
    let b = reading (g.A.ByteIn.ahead c.loop-reader.script) c.loop-reader.reader.held in
    let after = reading (g.A.ByteIn.ahead c.advance.new.source) c.advance.new.self.held in
    let steps = c.loop-reader.reader.steps in
    let step = c.advance.new.self.step in
    let read : Advances b after steps step (Ok true) = subst (λ b'. Advances b after steps step (Ok b')) c.if-branch.true c.in_ok-advance.ensures.step in
    handed_on (StopsReader first after.ahead) c.from_residual-in_err-wrong.result c.in_err-wrong.field-0.0 c.from_residual-in_err-wrong.ensures.1
    (stops_memory first b after v.above step c.in_err-wrong.field-0.0 v.read read c.in_err-wrong.ensures)

pub loop-reader-preserved-then-is_none : goal.loop-reader-preserved-then-is_none
loop-reader-preserved-then-is_none g c =
    let v = c.loop-reader.invariant in
    let b = reading (g.A.ByteIn.ahead c.loop-reader.script) c.loop-reader.reader.held in
    let after = reading (g.A.ByteIn.ahead c.advance.new.source) c.advance.new.self.held in
    let steps = c.loop-reader.reader.steps in
    let step = c.advance.new.self.step in
    let read : Advances b after steps step (Ok true) = subst (λ b'. Advances b after steps step (Ok b')) c.if-branch.true c.in_ok-advance.ensures.step in
    let more : CountsStep steps c.advance.new.self.steps (Ok true) = subst (λ b'. CountsStep steps c.advance.new.self.steps (Ok b')) c.if-branch.true c.in_ok-advance.ensures.number in
    let fed = fed_of c.args.chip.now c.loop-reader.chip c.args.limit v.above c.loop-reader.player c.loop-reader.wrong c.is_none.result c.is_none.ensures c.if-is_none.true v.stands in
    record {
      above = v.above ++ step ∷ [];
      read = has_more _ _ _ v.above step v.read read.0 read.1;
      number = omega (arith, more, v.number, length-append v.above (step ∷ []));
      stands = stands_next c.args.chip.now c.loop-reader.chip c.play_step.new.chip c.args.limit v.above step _ c.loop-reader.player c.play_step.new.player c.in_ok-wrong.wrong
          c.view.ensures fed c.in_ok-wrong.ensures;
      few = c.in_ok-advance.ensures.bound;
      count = c.in_ok-advance.ensures.count ∙ v.count;
    }

pub loop-reader-preserved : goal.loop-reader-preserved
loop-reader-preserved g c =
    let v = c.loop-reader.invariant in
    let b = reading (g.A.ByteIn.ahead c.loop-reader.script) c.loop-reader.reader.held in
    let after = reading (g.A.ByteIn.ahead c.advance.new.source) c.advance.new.self.held in
    let steps = c.loop-reader.reader.steps in
    let step = c.advance.new.self.step in
    let read : Advances b after steps step (Ok true) = subst (λ b'. Advances b after steps step (Ok b')) c.if-branch.true c.in_ok-advance.ensures.step in
    let more : CountsStep steps c.advance.new.self.steps (Ok true) = subst (λ b'. CountsStep steps c.advance.new.self.steps (Ok b')) c.if-branch.true c.in_ok-advance.ensures.number in
    record {
      above = v.above ++ step ∷ [];
      read = has_more _ _ _ v.above step v.read read.0 read.1;
      number = omega (arith, more, v.number, length-append v.above (step ∷ []));
      stands = kept_of c.args.chip.now c.loop-reader.chip c.args.limit v.above step c.loop-reader.player c.loop-reader.wrong c.is_none.result c.is_none.ensures c.if-is_none.false v.stands;
      few = c.in_ok-advance.ensures.bound;
      count = c.in_ok-advance.ensures.count ∙ v.count;
    }

pub returns-in-Some-clause-played : goal.returns-in-Some-clause-played
returns-in-Some-clause-played g c =
    let v = c.loop-reader.invariant in
    let b = reading (g.A.ByteIn.ahead c.loop-reader.script) c.loop-reader.reader.held in
    let after = reading (g.A.ByteIn.ahead c.advance.new.source) c.advance.new.self.held in
    let steps = c.loop-reader.reader.steps in
    let step = c.advance.new.self.step in
    let over : Advances b after steps step (Ok false) = subst (λ b'. Advances b after steps step (Ok b')) c.if-branch.false c.in_ok-advance.ensures.step in
    went_wrong (g.A.ByteIn.ahead c.args.script.now) b after v.above steps step v.read v.number over c.args.chip.now c.loop-reader.chip c.args.limit c.loop-reader.player
    c.in-Some.verdict (subst (Stands c.args.chip.now c.loop-reader.chip c.args.limit v.above c.loop-reader.player) c.in-Some.is v.stands)

pub returns-clause-played : goal.returns-clause-played
returns-clause-played g c =
    let v = c.loop-reader.invariant in
    let b = reading (g.A.ByteIn.ahead c.loop-reader.script) c.loop-reader.reader.held in
    let after = reading (g.A.ByteIn.ahead c.advance.new.source) c.advance.new.self.held in
    let steps = c.loop-reader.reader.steps in
    let step = c.advance.new.self.step in
    let over : Advances b after steps step (Ok false) = subst (λ b'. Advances b after steps step (Ok b')) c.if-branch.false c.in_ok-advance.ensures.step in
    all_played (g.A.ByteIn.ahead c.args.script.now) b after v.above steps step v.read v.number over c.args.chip.now c.loop-reader.chip c.args.limit c.loop-reader.player
    c.verdict_of.result (subst (Stands c.args.chip.now c.loop-reader.chip c.args.limit v.above c.loop-reader.player) c.in-None.is v.stands) c.verdict_of.ensures

pub returns-in_err-reader-clause-gave : goal.returns-in_err-reader-clause-gave
returns-in_err-reader-clause-gave g c = header_gave _ _ c.in_err-reader.field-0.0 c.in_err-reader.ensures.begun

pub returns-in_err-advance-clause-gave : goal.returns-in_err-advance-clause-gave
returns-in_err-advance-clause-gave g c =
    let v = c.loop-reader.invariant in
    step_gave _ (reading (g.A.ByteIn.ahead c.loop-reader.script) c.loop-reader.reader.held) (reading (g.A.ByteIn.ahead c.advance.new.source) c.advance.new.self.held)
    v.above c.loop-reader.reader.steps c.advance.new.self.step c.in_err-advance.field-0.0 v.read c.in_err-advance.ensures.step

pub returns-in_err-wrong-clause-gave : goal.returns-in_err-wrong-clause-gave
returns-in_err-wrong-clause-gave g c =
    let v = c.loop-reader.invariant in
    let b = reading (g.A.ByteIn.ahead c.loop-reader.script) c.loop-reader.reader.held in
    let after = reading (g.A.ByteIn.ahead c.advance.new.source) c.advance.new.self.held in
    let steps = c.loop-reader.reader.steps in
    let step = c.advance.new.self.step in
    let read : Advances b after steps step (Ok true) = subst (λ b'. Advances b after steps step (Ok b')) c.if-branch.true c.in_ok-advance.ensures.step in
    more_gave _ b after v.above _ v.read read.0

pub returns-in-Some-clause-gave : goal.returns-in-Some-clause-gave
returns-in-Some-clause-gave g c =
    let v = c.loop-reader.invariant in
    let b = reading (g.A.ByteIn.ahead c.loop-reader.script) c.loop-reader.reader.held in
    let after = reading (g.A.ByteIn.ahead c.advance.new.source) c.advance.new.self.held in
    let steps = c.loop-reader.reader.steps in
    let step = c.advance.new.self.step in
    let over : Advances b after steps step (Ok false) = subst (λ b'. Advances b after steps step (Ok b')) c.if-branch.false c.in_ok-advance.ensures.step in
    more_gave _ b after v.above _ v.read over.0

pub returns-clause-gave : goal.returns-clause-gave
returns-clause-gave g c =
    let v = c.loop-reader.invariant in
    let b = reading (g.A.ByteIn.ahead c.loop-reader.script) c.loop-reader.reader.held in
    let after = reading (g.A.ByteIn.ahead c.advance.new.source) c.advance.new.self.held in
    let steps = c.loop-reader.reader.steps in
    let step = c.advance.new.self.step in
    let over : Advances b after steps step (Ok false) = subst (λ b'. Advances b after steps step (Ok b')) c.if-branch.false c.in_ok-advance.ensures.step in
    more_gave _ b after v.above _ v.read over.0
