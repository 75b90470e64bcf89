-- The end line, and a line of no step.
use Rattle.std.proofs.Common.{◌≡◌, true, false, [], drop, Ok, Err, sym, ◌∙◌, ap, subst}
use Rattle.nor_script.specs.Line.{is_end, count_fault}
use Rattle.nor_script.specs.Parts.{or_fault}
use Rattle.nor_script.specs.LineParts.{step_by}
use Rattle.nor_script.specs.Stream.{reading, Reads, Steps, Advances, IsNextFault}
use Rattle.nor_script.specs.Lines.{Lines}
use Rattle.nor_script.proofs.ReaderLemmas.{found, right_end, end_advances, step_stops, stays, advance_refused, advance_failed, count_bad, step_reads}
use Rattle.nor_script.proofs.steps.StepReader.advance.Goals as goal

pub returns-in-Some-clause-step : goal.returns-in-Some-clause-step
returns-in-Some-clause-step g c =
    let lines = c.find_line.new.self in
    let held : c.self.inside.lines.held ≡ c.args.self.now.held = ap (λ (s : Steps). s.held) c.self.view_is in
    let steps : c.self.inside.steps ≡ c.args.self.now.steps = ap (λ (s : Steps). s.steps) c.self.view_is in
    let line : c.line.result.now ≡ lines.line = c.line.ensures in
    let ends : is_end lines.line ≡ true = ap is_end (sym line) ∙ c.in-Some.ensures.cases.0 in
    let counted : or_fault (count_fault c.self.inside.steps (drop 4 lines.line)) ≡ Ok tt =
    ap (λ l. or_fault (count_fault c.self.inside.steps (drop 4 l))) (sym line) ∙ ap (λ l. or_fault (count_fault c.self.inside.steps l)) (sym c.in-Some.ensures.cases.1)
    ∙ sym c.check_count.ensures ∙ c.in_ok-check_count.was in
    let there = found _ _ lines c.in_ok-find_line.field-0 c.if-not-branch.false c.in_ok-find_line.ensures.lines in
    let before = reading (g.R.ByteIn.ahead c.args.source.now) in
    let after = reading (g.R.ByteIn.ahead c.read_end.new.source) c.read_end.new.lines.held in
    let step = step_by c.self.inside.kind [] c.self.inside.expect.items in
    subst (λ l. Advances (before l) after c.args.self.now.steps step c.read_end.result) held
    (subst (λ n. Advances (before c.self.inside.lines.held) after n step c.read_end.result) steps
    (end_advances (before c.self.inside.lines.held) (reading (g.R.ByteIn.ahead c.find_line.new.source) lines.held) after lines.line c.self.inside.steps step c.read_end.result
    there.0 (right_end lines.line c.self.inside.steps ends counted) c.read_end.ensures.bytes))

pub returns-in_err-find_line-clause-step : goal.returns-in_err-find_line-clause-step
returns-in_err-find_line-clause-step g c =
    let held : c.self.inside.lines.held ≡ c.args.self.now.held = ap (λ (s : Steps). s.held) c.self.view_is in
    let there = c.in_err-find_line.ensures.lines in
    advance_failed _ _ c.args.self.now.steps _ c.from_residual.result _ c.from_residual.ensures.1
    (subst (λ l. Reads (reading (g.R.ByteIn.ahead c.args.source.now) l) (reading (g.R.ByteIn.ahead c.find_line.new.source) c.find_line.new.self.held) []) held there.0) there.1

pub returns-in_err-check_count-clause-step : goal.returns-in_err-check_count-clause-step
returns-in_err-check_count-clause-step g c =
    let lines = c.find_line.new.self in
    let fault = c.in_err-check_count.field-0.0 in
    let held : c.self.inside.lines.held ≡ c.args.self.now.held = ap (λ (s : Steps). s.held) c.self.view_is in
    let steps : c.self.inside.steps ≡ c.args.self.now.steps = ap (λ (s : Steps). s.steps) c.self.view_is in
    let line : c.line.result.now ≡ lines.line = c.line.ensures in
    let ends : is_end lines.line ≡ true = ap is_end (sym line) ∙ c.in-Some.ensures.cases.0 in
    let counted : or_fault (count_fault c.self.inside.steps (drop 4 lines.line)) ≡ Err fault =
    ap (λ l. or_fault (count_fault c.self.inside.steps (drop 4 l))) (sym line) ∙ ap (λ l. or_fault (count_fault c.self.inside.steps l)) (sym c.in-Some.ensures.cases.1)
    ∙ sym c.check_count.ensures ∙ c.in_err-check_count.was in
    let there = found _ _ lines c.in_ok-find_line.field-0 c.if-not-branch.false c.in_ok-find_line.ensures.lines in
    let after = reading (g.R.ByteIn.ahead c.find_line.new.source) lines.held in
    advance_refused (reading (g.R.ByteIn.ahead c.args.source.now) c.args.self.now.held) after c.args.self.now.steps _ c.from_residual-in_err-check_count.result fault
    c.from_residual-in_err-check_count.ensures.1 (subst (λ l. Reads (reading (g.R.ByteIn.ahead c.args.source.now) l) after []) held there.0)
    (subst (λ n. IsNextFault after n fault) steps (count_bad after c.self.inside.steps lines.line there.1.rest fault there.1.first ends counted))

pub returns-in_err-kind-clause-step : goal.returns-in_err-kind-clause-step
returns-in_err-kind-clause-step g c =
    let lines = c.find_line.new.self in
    let fault = c.in_err-kind.field-0.0 in
    let held : c.self.inside.lines.held ≡ c.args.self.now.held = ap (λ (s : Steps). s.held) c.self.view_is in
    let steps : c.self.inside.steps ≡ c.args.self.now.steps = ap (λ (s : Steps). s.steps) c.self.view_is in
    let ends : is_end lines.line ≡ false = ap is_end (sym c.line.ensures) ∙ c.in_default.ensures.cases in
    let bad = c.in_err-kind.ensures.refused in
    let there = found _ _ lines c.in_ok-find_line.field-0 c.if-not-branch.false c.in_ok-find_line.ensures.lines in
    let before = reading (g.R.ByteIn.ahead c.args.source.now) in
    let after = reading (g.R.ByteIn.ahead c.find_line.new.source) in
    advance_refused (before c.args.self.now.held) (after c.read_step.new.lines.held) c.args.self.now.steps _ c.from_residual-in_err-kind.result fault
    c.from_residual-in_err-kind.ensures.1 (stays _ _ lines _ bad.0 (subst (λ l. Reads (before l) (after lines.held) []) held there.0))
    (subst (λ (l : Lines). IsNextFault (after l.held) c.args.self.now.steps fault) (sym bad.0)
    (subst (λ n. IsNextFault (after lines.held) n fault) steps (step_stops (after lines.held) c.self.inside.steps lines.line there.1.rest fault there.1.first ends bad.1)))

pub returns-clause-step : goal.returns-clause-step
returns-clause-step g c =
    let lines = c.find_line.new.self in
    let held : c.self.inside.lines.held ≡ c.args.self.now.held = ap (λ (s : Steps). s.held) c.self.view_is in
    let there = found _ _ lines c.in_ok-find_line.field-0 c.if-not-branch.false c.in_ok-find_line.ensures.lines in
    step_reads _ _ lines c.read_step.new.lines _ _ _ (subst (λ l. Reads (reading (g.R.ByteIn.ahead c.args.source.now) l) (reading (g.R.ByteIn.ahead c.find_line.new.source) lines.held) []) held there.0) there.1 c.in_ok-kind.ensures.read
