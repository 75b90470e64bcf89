-- The steps that came are held, to the end or to what stopped them.
use Rattle.std.proofs.Common.{◌≡◌, ◌++◌, ◌∷◌, [], true, false, Ok, ◌∙◌, subst, sym, ap, length, arith, length-append}
use Rattle.nor_base.specs.declared.step.Step.{Step}
use Rattle.nor_script.specs.declared.fault.ReadFault.TheVariants.{Script}
use Rattle.nor_script.specs.Stream.{reading, Advances, CountsStep, HasRead, StopsReader}
use Rattle.nor_script.proofs.StreamLaws.{has_begun, has_more}
use Rattle.nor_script.proofs.TextLaws.{script_of, stops_header, stops_step, stops_memory}
use Rattle.nor_base.proofs.FaultLaws.{handed_on}
use Rattle.norprog_common.proofs.ReadingLemmas.{header_gave, more_gave, step_gave}
use Rattle.norprog_player.proofs.script.read_steps.Goals as goal

pub returns-in_err-reader-clause-stopped : goal.returns-in_err-reader-clause-stopped
returns-in_err-reader-clause-stopped g c =
    handed_on (StopsReader _ _) c.from_residual.result _ c.from_residual.ensures.1
    (stops_header _ _ _ c.in_err-reader.ensures.begun)

pub loop-reader-init : goal.loop-reader-init
loop-reader-init g c = record {
  read = subst (HasRead (reading (g.A.ByteIn.ahead c.args.script.now) []) (reading (g.A.ByteIn.ahead c.begin.new.source) c.in_ok-reader.reader.held)) (sym c.new-steps.ensures)
      (has_begun _ _ c.in_ok-reader.ensures.begun.0);
  number = c.in_ok-reader.ensures.begun.1 ∙ sym (ap length c.new-steps.ensures);
  count = c.in_ok-reader.ensures.count;
}

pub returns-in_err-advance-clause-stopped : goal.returns-in_err-advance-clause-stopped
returns-in_err-advance-clause-stopped g c =
    let v = c.loop-reader.invariant in
    handed_on (StopsReader _ _) c.from_residual-in_err-advance.result _ c.from_residual-in_err-advance.ensures.1
    (stops_step _ (reading (g.A.ByteIn.ahead c.loop-reader.script) c.loop-reader.reader.held) (reading (g.A.ByteIn.ahead c.advance.new.source) c.advance.new.self.held)
    c.loop-reader.steps c.loop-reader.reader.steps c.advance.new.self.step _ v.read v.number c.in_err-advance.ensures.step)

pub returns-in_err-keep-clause-stopped : goal.returns-in_err-keep-clause-stopped
returns-in_err-keep-clause-stopped g c =
    let v = c.loop-reader.invariant in
    let now = reading (g.A.ByteIn.ahead c.loop-reader.script) c.loop-reader.reader.held in
    let next = reading (g.A.ByteIn.ahead c.advance.new.source) c.advance.new.self.held in
    let read : Advances now next c.loop-reader.reader.steps c.advance.new.self.step (Ok true) =
    subst (λ b. Advances now next c.loop-reader.reader.steps c.advance.new.self.step (Ok b)) c.if-branch.true c.in_ok-advance.ensures.step in
    handed_on (StopsReader _ _) c.from_residual-in_err-keep.result _ c.from_residual-in_err-keep.ensures.1
    (stops_memory _ now next c.loop-reader.steps c.advance.new.self.step _ v.read read (ap Script c.in_err-keep.ensures.refused))

pub loop-reader-preserved : goal.loop-reader-preserved
loop-reader-preserved g c =
    let v = c.loop-reader.invariant in
    let above = c.loop-reader.steps in
    let step = c.advance.new.self.step in
    let now = reading (g.A.ByteIn.ahead c.loop-reader.script) c.loop-reader.reader.held in
    let next = reading (g.A.ByteIn.ahead c.advance.new.source) c.advance.new.self.held in
    let first = reading (g.A.ByteIn.ahead c.args.script.now) [] in
    let read : Advances now next c.loop-reader.reader.steps step (Ok true) =
    subst (λ b. Advances now next c.loop-reader.reader.steps step (Ok b)) c.if-branch.true c.in_ok-advance.ensures.step in
    let more : CountsStep c.loop-reader.reader.steps c.advance.new.self.steps (Ok true) =
    subst (λ b. CountsStep c.loop-reader.reader.steps c.advance.new.self.steps (Ok b)) c.if-branch.true c.in_ok-advance.ensures.number in
    let kept : c.keep.new.steps ≡ above ++ step ∷ [] = c.in_ok-keep.ensures.kept ∙ ap (λ (s : Step). above ++ s ∷ []) c.view.ensures in
    let long : length c.keep.new.steps ≡ length (above ++ step ∷ []) = ap length kept in
    record {
      read = subst (HasRead first next) (sym kept) (has_more first now next above step v.read read.0 read.1);
      number = omega (arith, more, v.number, long, length-append above (step ∷ []));
      count = c.in_ok-advance.ensures.count ∙ v.count;
    }

pub returns-clause-read : goal.returns-clause-read
returns-clause-read g c =
    let v = c.loop-reader.invariant in
    let now = reading (g.A.ByteIn.ahead c.loop-reader.script) c.loop-reader.reader.held in
    let next = reading (g.A.ByteIn.ahead c.advance.new.source) c.advance.new.self.held in
    let read : Advances now next c.loop-reader.reader.steps c.advance.new.self.step (Ok false) =
    subst (λ b. Advances now next c.loop-reader.reader.steps c.advance.new.self.step (Ok b)) c.if-branch.false c.in_ok-advance.ensures.step in
    script_of (g.A.ByteIn.ahead c.args.script.now) now next c.loop-reader.steps c.loop-reader.reader.steps c.advance.new.self.step v.read v.number read

pub returns-in_err-reader-clause-gave : goal.returns-in_err-reader-clause-gave
returns-in_err-reader-clause-gave g c = header_gave _ _ c.in_err-reader.field-0.0 c.in_err-reader.ensures.begun

pub returns-in_err-advance-clause-gave : goal.returns-in_err-advance-clause-gave
returns-in_err-advance-clause-gave g c =
    step_gave _ (reading (g.A.ByteIn.ahead c.loop-reader.script) c.loop-reader.reader.held) (reading (g.A.ByteIn.ahead c.advance.new.source) c.advance.new.self.held)
    c.loop-reader.steps c.loop-reader.reader.steps c.advance.new.self.step c.in_err-advance.field-0.0 c.loop-reader.invariant.read c.in_err-advance.ensures.step

pub returns-in_err-keep-clause-gave : goal.returns-in_err-keep-clause-gave
returns-in_err-keep-clause-gave g c =
    let now = (reading (g.A.ByteIn.ahead c.loop-reader.script) c.loop-reader.reader.held) in
    let next = (reading (g.A.ByteIn.ahead c.advance.new.source) c.advance.new.self.held) in
    let read : Advances now next c.loop-reader.reader.steps c.advance.new.self.step (Ok true) =
    subst (λ b. Advances now next c.loop-reader.reader.steps c.advance.new.self.step (Ok b)) c.if-branch.true c.in_ok-advance.ensures.step in
    more_gave _ now next c.loop-reader.steps _ c.loop-reader.invariant.read read.0

pub returns-clause-gave : goal.returns-clause-gave
returns-clause-gave g c =
    let now = (reading (g.A.ByteIn.ahead c.loop-reader.script) c.loop-reader.reader.held) in
    let next = (reading (g.A.ByteIn.ahead c.advance.new.source) c.advance.new.self.held) in
    let read : Advances now next c.loop-reader.reader.steps c.advance.new.self.step (Ok false) =
    subst (λ b. Advances now next c.loop-reader.reader.steps c.advance.new.self.step (Ok b)) c.if-branch.false c.in_ok-advance.ensures.step in
    more_gave _ now next c.loop-reader.steps _ c.loop-reader.invariant.read read.0
