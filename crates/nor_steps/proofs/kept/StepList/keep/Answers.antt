-- The line of the step that was kept comes last.
use Rattle.std.proofs.Common.{◌∷◌, [], ◌++◌, ◌∙◌, ap}
use Rattle.nor_select.specs.View.{coded_of}
use Rattle.nor_steps.proofs.KeptLemmas.{kept_line}
use Rattle.nor_steps.proofs.kept.StepList.keep.Goals as goal

pub returns-clause-lines : goal.returns-clause-lines
returns-clause-lines c =
    kept_line c.args.self.now c.push.new.self.items c.in_ok-step.step (coded_of c.args.instr.now)
    (c.in_ok-push.ensures.items ∙ ap (λ steps. steps ++ c.in_ok-step.step ∷ []) c.self.view_is) c.in_ok-step.ensures.step
