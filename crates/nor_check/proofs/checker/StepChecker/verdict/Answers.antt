-- The verdict that is reached, or that at the end.
use Rattle.std.proofs.Common.{[], sym, ◌∙◌, ap}
use Rattle.nor_check.specs.Fed.{Fed, to_come}
use Rattle.nor_check.proofs.Feeding.{told_now, ends_now}
use Rattle.nor_check.proofs.checker.StepChecker.verdict.Goals as goal

pub returns-in-Some : goal.returns-in-Some
returns-in-Some c = told_now c.args.self.now c.args.want.now c.in-Some.verdict (ap (λ (f : Fed). f.stopped) (sym c.self.view_is) ∙ c.in-Some.is)

pub returns-in-None : goal.returns-in-None
returns-in-None c =
    c.verdict.ensures ∙ ends_now c.args.want.now _ c.self.inside.number c.self.inside.page c.self.inside.reads c.self.inside.chips c.self.inside.stopped c.in-None.is
    ∙ ap (λ (f : Fed). to_come f c.args.want.now []) c.self.view_is
