use Rattle.std.proofs.Common.{◌≡◌, Some, None, Ok, sym, subst, append-nil}
use Rattle.nor_layout.specs.Line.{line_below}
use Rattle.nor_layout.specs.Text.{Refuses}
use Rattle.nor_base.proofs.FaultLaws.{handed_on}
use Rattle.nor_layout.proofs.Reading.{Tells, refused_here, read_further, all_read}
use Rattle.nor_layout.proofs.reader.read.Goals as goal

pub returns-in_err-region-clause-refused : goal.returns-in_err-region-clause-refused
returns-in_err-region-clause-refused c =
    let refuses = refused_here c.args.text.now _ _ _ _ _ c.in_err-region.field-0.0 c.loop-number.invariant c.in-Some.ensures.steps (rw (← c.deref.ensures.value) c.in_err-region.ensures) in
    handed_on (Refuses c.args.text.now) c.from_residual.result c.in_err-region.field-0.0 c.from_residual.ensures.1 refuses

pub loop-number-preserved-in-Continue-branch-3 : goal.loop-number-preserved-in-Continue-branch-3
loop-number-preserved-in-Continue-branch-3 c =
    let some : c.in_ok-region.field-0 ≡ Some c.in-Some-2.region = c.in-Some-2.is in
    read_further (λ line. (line.0, line.1.now)) _ _ _ c.loop-number.yielded (c.in-Some.number, c.in-Some.line) _ _ (Some c.in-Some-2.region)
    c.loop-number.invariant c.in-Some.ensures.steps (rw (← some, ← c.deref.ensures.value) c.in_ok-region.ensures) c.in_ok-push.ensures.items

pub loop-number-preserved : goal.loop-number-preserved
loop-number-preserved c =
    read_further (λ line. (line.0, line.1.now)) _ _ _ c.loop-number.yielded (c.in-Some.number, c.in-Some.line) _ _ None
    c.loop-number.invariant c.in-Some.ensures.steps
    (subst (λ o. Tells (line_below c.loop-number.regions.items c.in-Some.line.now) c.in-Some.number (Ok o)) c.in_default.is (rw (← c.deref.ensures.value) c.in_ok-region.ensures))
    (sym (append-nil c.loop-number.regions.items))

pub returns-clause-accepted : goal.returns-clause-accepted
returns-clause-accepted c = all_read c.args.text.now _ _ _ c.loop-number.invariant c.in-None.ensures.steps.0
