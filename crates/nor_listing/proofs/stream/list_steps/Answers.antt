-- The lines of the steps that came, to the end or to what stopped them.
use Rattle.std.proofs.Common.{◌≡◌, ◌-◌, ◌++◌, ◌∷◌, [], true, false, Ok, length, refl, ◌∙◌, subst, arith, length-append}
use Rattle.std.specs.Io.KnownBytes.{Appends}
use Rattle.nor_listing.specs.Stream.{Lists}
use Rattle.nor_script.specs.Stream.{reading, Advances, CountsStep}
use Rattle.nor_script.proofs.StreamLaws.{has_begun, has_more}
use Rattle.nor_base.proofs.FaultLaws.{answered}
use Rattle.nor_listing.proofs.StreamLemmas.{unended_none, line_put, mode_next, lists_none, lists_header, lists_fault, lists_step, lists_all, lists_end_cut}
use Rattle.nor_listing.proofs.stream.list_steps.Goals as goal
use Rattle.nor_base.specs.Wire.{wire}

pub returns-in_err-begin-clause-lists : goal.returns-in_err-begin-clause-lists
returns-in_err-begin-clause-lists g c =
    answered c.from_residual.result (Lists c.args.meaning.now c.args.first (wire (g.W.ByteOut.held c.args.out.now) (g.R.ByteIn.ahead c.args.script.now)) (wire (g.W.ByteOut.held c.begin.new.out) (g.R.ByteIn.ahead c.args.script.now))) _
    (lists_none c.args.meaning.now c.args.first (g.R.ByteIn.ahead c.args.script.now) (g.W.ByteOut.held c.args.out.now) (g.W.ByteOut.held c.begin.new.out) _ c.in_err-begin.ensures.bytes) c.from_residual.ensures.1

pub returns-in_err-reader-clause-lists : goal.returns-in_err-reader-clause-lists
returns-in_err-reader-clause-lists g c =
    answered c.from_residual-in_err-reader.result (Lists c.args.meaning.now c.args.first (wire (g.W.ByteOut.held c.args.out.now) (g.R.ByteIn.ahead c.args.script.now)) (wire (g.W.ByteOut.held c.begin.new.out) (g.R.ByteIn.ahead c.begin-2.new.source))) _
    (lists_header c.args.meaning.now c.args.first (g.R.ByteIn.ahead c.args.script.now) (g.R.ByteIn.ahead c.begin-2.new.source) (g.W.ByteOut.held c.args.out.now) (g.W.ByteOut.held c.begin.new.out) c.in_err-reader.field-0.0 c.in_err-reader.ensures.begun c.in_ok-begin.ensures.bytes) c.from_residual-in_err-reader.ensures.1

pub loop-reader-init : goal.loop-reader-init
loop-reader-init g c = record {
  above = [];
  read = has_begun _ _ c.in_ok-reader.ensures.begun.0;
  number = c.in_ok-reader.ensures.begun.1;
  put = subst (Appends (g.W.ByteOut.held c.args.out.now) (g.W.ByteOut.held c.begin.new.out)) (unended_none c.args.meaning.now c.args.first) c.in_ok-begin.ensures.bytes;
  mode = refl;
  source = c.in_ok-reader.ensures.count;
  count = c.in_ok-begin.ensures.count;
}

pub returns-in_err-advance-clause-lists : goal.returns-in_err-advance-clause-lists
returns-in_err-advance-clause-lists g c =
    let v = c.loop-reader.invariant in
    answered c.from_residual-in_err-advance.result (Lists c.args.meaning.now c.args.first (wire (g.W.ByteOut.held c.args.out.now) (g.R.ByteIn.ahead c.args.script.now)) (wire (g.W.ByteOut.held c.loop-reader.out) (g.R.ByteIn.ahead c.advance.new.source))) _
    (lists_fault c.args.meaning.now c.args.first (g.R.ByteIn.ahead c.args.script.now) (reading (g.R.ByteIn.ahead c.loop-reader.script) c.loop-reader.reader.held) (reading (g.R.ByteIn.ahead c.advance.new.source) c.advance.new.self.held) v.above c.loop-reader.reader.steps c.advance.new.self.step (g.W.ByteOut.held c.args.out.now) (g.W.ByteOut.held c.loop-reader.out) c.in_err-advance.field-0.0
    v.read v.number c.in_err-advance.ensures.step v.put) c.from_residual-in_err-advance.ensures.1

pub returns-in_err-mode4-clause-lists : goal.returns-in_err-mode4-clause-lists
returns-in_err-mode4-clause-lists g c =
    let v = c.loop-reader.invariant in
    let read : Advances (reading (g.R.ByteIn.ahead c.loop-reader.script) c.loop-reader.reader.held) (reading (g.R.ByteIn.ahead c.advance.new.source) c.advance.new.self.held) c.loop-reader.reader.steps c.advance.new.self.step (Ok true) =
    subst (λ b. Advances (reading (g.R.ByteIn.ahead c.loop-reader.script) c.loop-reader.reader.held) (reading (g.R.ByteIn.ahead c.advance.new.source) c.advance.new.self.held) c.loop-reader.reader.steps c.advance.new.self.step (Ok b)) c.if-branch.true c.in_ok-advance.ensures.step in
    let more : CountsStep c.loop-reader.reader.steps c.advance.new.self.steps (Ok true) = subst (λ b. CountsStep c.loop-reader.reader.steps c.advance.new.self.steps (Ok b)) c.if-branch.true c.in_ok-advance.ensures.number in
    let number : c.steps.result - 1 ≡ length v.above = omega (arith, c.steps.ensures, more, v.number) in
    answered c.from_residual-in_err-mode4.result (Lists c.args.meaning.now c.args.first (wire (g.W.ByteOut.held c.args.out.now) (g.R.ByteIn.ahead c.args.script.now)) (wire (g.W.ByteOut.held c.put_step.new.out) (g.R.ByteIn.ahead c.advance.new.source))) _
    (lists_step c.args.meaning.now c.args.first (g.R.ByteIn.ahead c.args.script.now) (reading (g.R.ByteIn.ahead c.loop-reader.script) c.loop-reader.reader.held) (reading (g.R.ByteIn.ahead c.advance.new.source) c.advance.new.self.held) v.above c.advance.new.self.step _ _ c.loop-reader.mode4 (g.W.ByteOut.held c.args.out.now) (g.W.ByteOut.held c.loop-reader.out) (g.W.ByteOut.held c.put_step.new.out) c.in_err-mode4.field-0.0
    v.read read c.view.ensures number v.mode v.put c.in_err-mode4.ensures.line) c.from_residual-in_err-mode4.ensures.1

pub loop-reader-preserved : goal.loop-reader-preserved
loop-reader-preserved g c =
    let v = c.loop-reader.invariant in
    let read : Advances (reading (g.R.ByteIn.ahead c.loop-reader.script) c.loop-reader.reader.held) (reading (g.R.ByteIn.ahead c.advance.new.source) c.advance.new.self.held) c.loop-reader.reader.steps c.advance.new.self.step (Ok true) =
    subst (λ b. Advances (reading (g.R.ByteIn.ahead c.loop-reader.script) c.loop-reader.reader.held) (reading (g.R.ByteIn.ahead c.advance.new.source) c.advance.new.self.held) c.loop-reader.reader.steps c.advance.new.self.step (Ok b)) c.if-branch.true c.in_ok-advance.ensures.step in
    let more : CountsStep c.loop-reader.reader.steps c.advance.new.self.steps (Ok true) = subst (λ b. CountsStep c.loop-reader.reader.steps c.advance.new.self.steps (Ok b)) c.if-branch.true c.in_ok-advance.ensures.number in
    let number : c.steps.result - 1 ≡ length v.above = omega (arith, c.steps.ensures, more, v.number) in record {
      above = v.above ++ c.advance.new.self.step ∷ [];
      read = has_more _ _ _ v.above c.advance.new.self.step v.read read.0 read.1;
      number = omega (arith, more, v.number, length-append v.above (c.advance.new.self.step ∷ []));
      put = line_put c.args.meaning.now c.args.first v.above c.advance.new.self.step _ _ c.loop-reader.mode4 (g.W.ByteOut.held c.args.out.now) (g.W.ByteOut.held c.loop-reader.out) (g.W.ByteOut.held c.put_step.new.out) c.view.ensures number v.mode v.put c.in_ok-mode4.ensures.line;
      mode = c.in_ok-mode4.ensures.mode ∙ mode_next c.args.meaning.now c.args.first c.loop-reader.mode4 v.above c.advance.new.self.step _ c.view.ensures v.mode;
      source = c.in_ok-advance.ensures.count ∙ v.source;
      count = c.in_ok-mode4.ensures.count ∙ v.count;
    }

pub returns-in_err-finish-clause-lists : goal.returns-in_err-finish-clause-lists
returns-in_err-finish-clause-lists g c =
    let v = c.loop-reader.invariant in
    let read : Advances (reading (g.R.ByteIn.ahead c.loop-reader.script) c.loop-reader.reader.held) (reading (g.R.ByteIn.ahead c.advance.new.source) c.advance.new.self.held) c.loop-reader.reader.steps c.advance.new.self.step (Ok false) =
    subst (λ b. Advances (reading (g.R.ByteIn.ahead c.loop-reader.script) c.loop-reader.reader.held) (reading (g.R.ByteIn.ahead c.advance.new.source) c.advance.new.self.held) c.loop-reader.reader.steps c.advance.new.self.step (Ok b)) c.if-branch.false c.in_ok-advance.ensures.step in
    let same : CountsStep c.loop-reader.reader.steps c.advance.new.self.steps (Ok false) = subst (λ b. CountsStep c.loop-reader.reader.steps c.advance.new.self.steps (Ok b)) c.if-branch.false c.in_ok-advance.ensures.number in
    answered c.from_residual-in_err-finish.result (Lists c.args.meaning.now c.args.first (wire (g.W.ByteOut.held c.args.out.now) (g.R.ByteIn.ahead c.args.script.now)) (wire (g.W.ByteOut.held c.finish.new.out) (g.R.ByteIn.ahead c.advance.new.source))) _
    (lists_end_cut c.args.meaning.now c.args.first (g.R.ByteIn.ahead c.args.script.now) (reading (g.R.ByteIn.ahead c.loop-reader.script) c.loop-reader.reader.held) (reading (g.R.ByteIn.ahead c.advance.new.source) c.advance.new.self.held) v.above c.loop-reader.reader.steps c.steps-2.result c.advance.new.self.step (g.W.ByteOut.held c.args.out.now) (g.W.ByteOut.held c.loop-reader.out) (g.W.ByteOut.held c.finish.new.out) _ v.read v.number
    (c.steps-2.ensures ∙ same ∙ v.number) read v.put c.in_err-finish.ensures.bytes) c.from_residual-in_err-finish.ensures.1

pub returns-clause-lists : goal.returns-clause-lists
returns-clause-lists g c =
    let v = c.loop-reader.invariant in
    let read : Advances (reading (g.R.ByteIn.ahead c.loop-reader.script) c.loop-reader.reader.held) (reading (g.R.ByteIn.ahead c.advance.new.source) c.advance.new.self.held) c.loop-reader.reader.steps c.advance.new.self.step (Ok false) =
    subst (λ b. Advances (reading (g.R.ByteIn.ahead c.loop-reader.script) c.loop-reader.reader.held) (reading (g.R.ByteIn.ahead c.advance.new.source) c.advance.new.self.held) c.loop-reader.reader.steps c.advance.new.self.step (Ok b)) c.if-branch.false c.in_ok-advance.ensures.step in
    let same : CountsStep c.loop-reader.reader.steps c.advance.new.self.steps (Ok false) = subst (λ b. CountsStep c.loop-reader.reader.steps c.advance.new.self.steps (Ok b)) c.if-branch.false c.in_ok-advance.ensures.number in
    lists_all c.args.meaning.now c.args.first (g.R.ByteIn.ahead c.args.script.now) (reading (g.R.ByteIn.ahead c.loop-reader.script) c.loop-reader.reader.held) (reading (g.R.ByteIn.ahead c.advance.new.source) c.advance.new.self.held) v.above c.loop-reader.reader.steps c.steps-2.result c.advance.new.self.step (g.W.ByteOut.held c.args.out.now) (g.W.ByteOut.held c.loop-reader.out) (g.W.ByteOut.held c.finish.new.out) v.read v.number
    (c.steps-2.ensures ∙ same ∙ v.number) read v.put c.in_ok-finish.ensures.bytes
