-- The steps that were read are those of the text, to the end or to what stopped the reading.
use Rattle.std.proofs.Common.{◌++◌, ◌∷◌, [], true, false, Ok, ◌∙◌, subst, arith, length-append}
use Rattle.nor_script.specs.Stream.{reading, Advances, CountsStep, StopsReader}
use Rattle.nor_script.proofs.StreamLaws.{has_begun, has_more}
use Rattle.nor_base.proofs.FaultLaws.{handed_on}
use Rattle.nor_script.proofs.TextLaws.{stops_header, stops_step, script_of}
use Rattle.norprog_common.proofs.ReadingLemmas.{header_gave, more_gave, step_gave}
use Rattle.norprog_common.proofs.looked.look_through.Goals as goal

pub returns-in_err-reader-clause-stopped : goal.returns-in_err-reader-clause-stopped
returns-in_err-reader-clause-stopped g c =
    handed_on (StopsReader _ _) c.from_residual.result _ c.from_residual.ensures.1 (stops_header _ _ _ c.in_err-reader.ensures.begun)

pub loop-reader-init : goal.loop-reader-init
loop-reader-init g c = record {
  above = [];
  read = has_begun _ _ c.in_ok-reader.ensures.begun.0;
  number = c.in_ok-reader.ensures.begun.1;
  count = c.in_ok-reader.ensures.count;
}

pub returns-in_err-advance-clause-stopped : goal.returns-in_err-advance-clause-stopped
returns-in_err-advance-clause-stopped g c =
    let v = c.loop-reader.invariant in
    handed_on (StopsReader _ _) c.from_residual-in_err-advance.result _ c.from_residual-in_err-advance.ensures.1
    (stops_step _ (reading (g.R.ByteIn.ahead c.loop-reader.script) c.loop-reader.reader.held) (reading (g.R.ByteIn.ahead c.advance.new.source) c.advance.new.self.held) v.above c.loop-reader.reader.steps c.advance.new.self.step _
    v.read v.number c.in_err-advance.ensures.step)

pub loop-reader-preserved : goal.loop-reader-preserved
loop-reader-preserved g c =
    let v = c.loop-reader.invariant in
    let read : Advances (reading (g.R.ByteIn.ahead c.loop-reader.script) c.loop-reader.reader.held) (reading (g.R.ByteIn.ahead c.advance.new.source) c.advance.new.self.held) c.loop-reader.reader.steps c.advance.new.self.step (Ok true) =
    subst (λ b. Advances (reading (g.R.ByteIn.ahead c.loop-reader.script) c.loop-reader.reader.held) (reading (g.R.ByteIn.ahead c.advance.new.source) c.advance.new.self.held) c.loop-reader.reader.steps c.advance.new.self.step (Ok b)) c.if-branch.true c.in_ok-advance.ensures.step in
    let more : CountsStep c.loop-reader.reader.steps c.advance.new.self.steps (Ok true) = subst (λ b. CountsStep c.loop-reader.reader.steps c.advance.new.self.steps (Ok b)) c.if-branch.true c.in_ok-advance.ensures.number in record {
      above = v.above ++ c.advance.new.self.step ∷ [];
      read = has_more _ _ _ v.above c.advance.new.self.step v.read read.0 read.1;
      number = omega (arith, more, v.number, length-append v.above (c.advance.new.self.step ∷ []));
      count = c.in_ok-advance.ensures.count ∙ v.count;
    }

pub returns-clause-read : goal.returns-clause-read
returns-clause-read g c =
    let v = c.loop-reader.invariant in
    let before = reading (g.R.ByteIn.ahead c.loop-reader.script) c.loop-reader.reader.held in
    let after = reading (g.R.ByteIn.ahead c.advance.new.source) c.advance.new.self.held in
    let read : Advances before after c.loop-reader.reader.steps c.advance.new.self.step (Ok false) =
    subst (λ b. Advances before after c.loop-reader.reader.steps c.advance.new.self.step (Ok b)) c.if-branch.false c.in_ok-advance.ensures.step in
    let of = script_of _ before after v.above c.loop-reader.reader.steps c.advance.new.self.step v.read v.number read in
    (of.0, of.1, record { steps = v.above; script = of.2 })

pub returns-in_err-reader-clause-gave : goal.returns-in_err-reader-clause-gave
returns-in_err-reader-clause-gave g c = header_gave _ _ c.in_err-reader.field-0.0 c.in_err-reader.ensures.begun

pub returns-in_err-advance-clause-gave : goal.returns-in_err-advance-clause-gave
returns-in_err-advance-clause-gave g c =
    step_gave _ (reading (g.R.ByteIn.ahead c.loop-reader.script) c.loop-reader.reader.held) (reading (g.R.ByteIn.ahead c.advance.new.source) c.advance.new.self.held)
    c.loop-reader.invariant.above c.loop-reader.reader.steps c.advance.new.self.step c.in_err-advance.field-0.0 c.loop-reader.invariant.read c.in_err-advance.ensures.step

pub returns-clause-gave : goal.returns-clause-gave
returns-clause-gave g c =
    let before = (reading (g.R.ByteIn.ahead c.loop-reader.script) c.loop-reader.reader.held) in
    let after = (reading (g.R.ByteIn.ahead c.advance.new.source) c.advance.new.self.held) in
    let read : Advances before after c.loop-reader.reader.steps c.advance.new.self.step (Ok false) =
    subst (λ more. Advances before after c.loop-reader.reader.steps c.advance.new.self.step (Ok more)) c.if-branch.false c.in_ok-advance.ensures.step in
    more_gave _ before after c.loop-reader.invariant.above _ c.loop-reader.invariant.read read.0
