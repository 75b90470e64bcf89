use Rattle.nor_base.proofs.FaultLaws.{handed_on}
use Rattle.nor_sheet.specs.Text.{Refuses}
use Rattle.nor_sheet.proofs.ReadLemmas.{read_further, refused_here, all_read, told}
use Rattle.nor_sheet.proofs.reader.read.Goals as goal

pub returns-in_err-sheet-clause-refused : goal.returns-in_err-sheet-clause-refused
returns-in_err-sheet-clause-refused c =
    let refuses = refused_here (λ line. (line.0, line.1.now)) c.args.text.now _ _ c.loop-number.yielded (c.in-Some.number, c.in-Some.line) _ c.in_err-sheet.field-0.0
    c.loop-number.invariant c.in-Some.ensures.steps c.in_err-sheet.ensures.value in
    handed_on (Refuses c.args.text.now) c.from_residual.result c.in_err-sheet.field-0.0 c.from_residual.ensures.1 refuses

pub loop-number-preserved : goal.loop-number-preserved
loop-number-preserved c =
    read_further (λ line. (line.0, line.1.now)) _ _ _ c.loop-number.yielded (c.in-Some.number, c.in-Some.line) _ c.in_ok-sheet.sheet
    c.loop-number.invariant c.in-Some.ensures.steps c.in_ok-sheet.ensures.said c.in_ok-sheet.ensures.value

pub returns-clause-accepted : goal.returns-clause-accepted
returns-clause-accepted c =
    (told c.args.text.now c.loop-number.sheet c.whole.result (all_read c.args.text.now _ _ _ c.loop-number.invariant c.in-None.ensures.steps.0) c.whole.ensures).0

pub returns-clause-refused : goal.returns-clause-refused
returns-clause-refused c =
    (told c.args.text.now c.loop-number.sheet c.whole.result (all_read c.args.text.now _ _ _ c.loop-number.invariant c.in-None.ensures.steps.0) c.whole.ensures).1
