-- Each line takes the reading further, or ends it.
use Rattle.std.proofs.Common.{◌≡◌, ◌≢◌, ◌+◌, ◌++◌, length, List, drop, Ok, sym, ◌∙◌, ap, subst, rules, arith}
use Rattle.std.proofs.lemmas.Bool.Decides.{Decides-eqb}
use Rattle.std.proofs.lemmas.Slice.Eq.{strip_prefix_is}
use Rattle.std.specs.Prelude.{codes}
use Rattle.nor_base.specs.declared.step.Step.{Step}
use Rattle.nor_base.specs.Script.{header}
use Rattle.nor_script.specs.declared.fault.ScriptFault.TheVariants.{AfterEnd}
use Rattle.nor_script.specs.Line.{count_fault, step_fault}
use Rattle.nor_script.specs.Parts.{or_fault, TellsFault}
use Rattle.nor_script.specs.Faults.{IsRight, GoesOn, Refuses, AreAbove}
use Rattle.nor_base.proofs.FaultLaws.{handed_on}
use Rattle.nor_script.proofs.ReadLemmas.{begun, one_more, all_read, went_on, went_above, step_refused, step_above, header_missing}
use Rattle.nor_script.proofs.reader.read_steps.Goals as goal

pub returns-in_default-clause-refused : goal.returns-in_default-clause-refused
unfolding header
returns-in_default-clause-refused c = header_missing c.args.text.now (rw c.in_default.is at (strip_prefix_is Decides-eqb c.args.text.now (codes "norscript 1\n") _ c.strip_prefix.ensures.cases))

pub loop-line-init : goal.loop-line-init
unfolding header
loop-line-init c =
    let body : c.args.text.now ≡ header ++ c.in-Some.body.now = rw c.in-Some.is at (strip_prefix_is Decides-eqb c.args.text.now (codes "norscript 1\n") _ c.strip_prefix.ensures.cases) in
    subst (λ (steps : List Step). IsRight c.args.text.now steps c.in-Some.body.now) (sym c.requires) (begun c.args.text.now c.in-Some.body.now body)

pub returns-then-is_empty-clause-read : goal.returns-then-is_empty-clause-read
returns-then-is_empty-clause-read c =
    let count : c.len-count.result ≡ length c.loop-line.steps.items = omega (arith, c.loop-line.steps.ok.0) in
    let digits = c.in-Some-strip_prefix.ensures.cases.1 in
    let counted : or_fault (count_fault (length c.loop-line.steps.items) (drop 4 c.in-Some-first_line.line.now)) ≡ Ok tt =
    ap (λ l. or_fault (count_fault (length c.loop-line.steps.items) l)) (sym digits)
    ∙ ap (λ n. or_fault (count_fault n c.in-Some-strip_prefix.digits.now)) (sym count) ∙ sym c.check_count.ensures ∙ c.in_ok-check_count.was in
    let over : length c.in-Some-first_line.more.now ≡ 0 = search rules in
    all_read c.args.text.now c.loop-line.steps.items _ _ _ c.loop-line.invariant c.in-Some-first_line.ensures c.in-Some-strip_prefix.ensures.cases.0 counted over

pub returns-else-is_empty-clause-refused : goal.returns-else-is_empty-clause-refused
returns-else-is_empty-clause-refused c =
    let count : c.len-count.result ≡ length c.loop-line.steps.items = omega (arith, c.loop-line.steps.ok.0) in
    let digits = c.in-Some-strip_prefix.ensures.cases.1 in
    let counted : or_fault (count_fault (length c.loop-line.steps.items) (drop 4 c.in-Some-first_line.line.now)) ≡ Ok tt =
    ap (λ l. or_fault (count_fault (length c.loop-line.steps.items) l)) (sym digits)
    ∙ ap (λ n. or_fault (count_fault n c.in-Some-strip_prefix.digits.now)) (sym count) ∙ sym c.check_count.ensures ∙ c.in_ok-check_count.was in
    let more : length c.in-Some-first_line.more.now ≢ 0 = search rules in
    let refuses = went_on c.args.text.now c.loop-line.steps.items _ _ _ c.loop-line.invariant c.in-Some-first_line.ensures c.in-Some-strip_prefix.ensures.cases.0 counted more in
    subst (λ n. GoesOn c.args.text.now (n + 3)) (sym count) refuses

pub returns-else-is_empty-clause-above : goal.returns-else-is_empty-clause-above
returns-else-is_empty-clause-above c =
    let count : c.len-count.result ≡ length c.loop-line.steps.items = omega (arith, c.loop-line.steps.ok.0) in
    subst (λ n. AreAbove c.args.text.now c.loop-line.steps.items (AfterEnd (n + 3))) (sym count) (went_above c.args.text.now c.loop-line.steps.items _ c.loop-line.invariant)

pub returns-in_err-step_on-clause-refused : goal.returns-in_err-step_on-clause-refused
returns-in_err-step_on-clause-refused c =
    let count : c.len-count.result ≡ length c.loop-line.steps.items = omega (arith, c.loop-line.steps.ok.0) in
    let refuses = step_refused c.args.text.now c.loop-line.steps.items _ _ _ c.in_err-step_on.field-0.0 c.loop-line.invariant c.in-Some-first_line.ensures
    c.in_default-strip_prefix.ensures.cases (subst (λ n. TellsFault (step_fault (n + 2) c.in-Some-first_line.line.now) c.in_err-step_on.field-0.0) count c.in_err-step_on.ensures.refused) in
    handed_on (Refuses c.args.text.now) c.from_residual-in_err-step_on.result c.in_err-step_on.field-0.0 c.from_residual-in_err-step_on.ensures.1 refuses

pub returns-in_err-step_on-clause-above : goal.returns-in_err-step_on-clause-above
returns-in_err-step_on-clause-above c =
    let count : c.len-count.result ≡ length c.loop-line.steps.items = omega (arith, c.loop-line.steps.ok.0) in
    let above = step_above c.args.text.now c.loop-line.steps.items _ c.in-Some-first_line.line.now c.in_err-step_on.field-0.0 c.loop-line.invariant
    (subst (λ n. TellsFault (step_fault (n + 2) c.in-Some-first_line.line.now) c.in_err-step_on.field-0.0) count c.in_err-step_on.ensures.refused) in
    handed_on (AreAbove c.args.text.now c.loop-line.steps.items) c.from_residual-in_err-step_on.result c.in_err-step_on.field-0.0 c.from_residual-in_err-step_on.ensures.1 above

pub loop-line-preserved : goal.loop-line-preserved
loop-line-preserved c =
    one_more c.args.text.now c.loop-line.steps.items c.push.new.self.items _ _ _ _ c.loop-line.invariant c.in-Some-first_line.ensures c.in_ok-step_on.ensures.read c.in_ok-push.ensures.items
