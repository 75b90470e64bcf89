use Rattle.std.proofs.Common.{◌≡◌, ◌∙◌, ◌&&◌, ◌++◌, ◌∷◌, [], false, map, refl, sym, ap, subst, append-nil}
use Rattle.std.specs.Prelude.{if◌then◌else◌}
use Rattle.std.specs.List.{AllByRecursion}
use Rattle.nor_base.specs.Step.{IsStep}
use Rattle.nor_log.specs.declared.line.Said.TheVariants.{Does}
use Rattle.nor_log.proofs.ReadLemmas.{read_further, strange_here}
use Rattle.nor_log.proofs.StepLemmas.{all_steps}
use Rattle.nor_log.proofs.reader.read.Goals as goal
use Rattle.nor_log.proofs.reader.read.Goals.{else-without_identity-via-then-without_identity+else-identity, else-without_identity-via-else-without_identity}

pub loop-number-preserved : goal.loop-number-preserved
loop-number-preserved c =
    let stays : (c.args.without_identity && c.in-Does.identity) ≡ false =
    elim c.else-without_identity.branch [
      | else-without_identity-via-then-without_identity+else-identity w ↦ rw (w.if-identity.false) (rw (w.if-without_identity.true) refl)
      | else-without_identity-via-else-without_identity w ↦ rw (w.if-without_identity.false) refl
    ] in
    read_further c.args.without_identity (λ line. (line.0, line.1.now)) _ _ _ c.loop-number.yielded (c.in-Some.number, c.in-Some.line) (Does c.in-Does.step c.in-Does.identity)
    _ _ _ _ c.loop-number.invariant c.in-Some.ensures.steps (sym c.in-Does.is ∙ c.in_ok-line_says.ensures) refl
    (c.in_ok-push-in-Does-2.ensures.items ∙ ap (λ b. c.loop-number.steps.items ++ (if b then [] else c.in-Does.step ∷ [])) (sym stays))
    (sym (append-nil c.loop-number.left_out.items) ∙ ap (λ b. c.loop-number.left_out.items ++ (if b then c.in-Does.step ∷ [] else [])) (sym stays))

pub returns-in-Strange-clause-refused : goal.returns-in-Strange-clause-refused
returns-in-Strange-clause-refused c =
    strange_here c.args.without_identity (λ line. (line.0, line.1.now)) c.args.text.now _ _ c.loop-number.yielded (c.in-Some.number, c.in-Some.line) _ _
    c.loop-number.invariant c.in-Some.ensures.steps (sym c.in-Strange.is ∙ c.in_ok-line_says.ensures)

pub returns-clause-steps : goal.returns-clause-steps
returns-clause-steps c = subst (AllByRecursion IsStep) (sym c.loop-number.invariant.steps) (all_steps c.args.without_identity (map (λ line. (line.0, line.1.now)) c.loop-number.yielded))
