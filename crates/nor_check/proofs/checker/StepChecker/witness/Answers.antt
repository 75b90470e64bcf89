-- The page that was noted, or that of the chips with the earliest verdict at the end.
use Rattle.std.proofs.Common.{◌≡◌, [], sym, ◌∙◌, ap, subst}
use Rattle.nor_check.specs.declared.verdict.Verdict.TheVariants.{No}
use Rattle.nor_check.specs.Fed.{Fed, IsShown, to_come}
use Rattle.nor_check.proofs.Feeding.{ends_now}
use Rattle.nor_check.proofs.Witnessed.{reached_shown, ends_shown}
use Rattle.nor_check.proofs.checker.StepChecker.witness.Goals as goal
use Rattle.nor_check.proofs.checker.StepChecker.witness.Goals.{in-Some, in-None}

pub returns : goal.returns
returns c = λ step why is.
    let so : to_come (record { size = c.self.inside.meaning.now.size; number = c.self.inside.number; chips = c.self.inside.chips; stopped = c.self.inside.stopped; page = c.self.inside.page; reads = c.self.inside.reads }) c.args.want.now [] ≡ No step why = ap (λ (f : Fed). to_come f c.args.want.now []) c.self.view_is ∙ is in
    elim c.match-self.branch [
      | in-Some w ↦
          subst (λ page. IsShown c.args.self.now c.args.want.now [] (No step why) (record { reads = c.self.inside.reads; page = page })) (sym w.page-is)
          (subst (λ (f : Fed). IsShown f c.args.want.now [] (No step why) (record { reads = c.self.inside.reads; page = c.self.inside.page })) c.self.view_is
          (reached_shown (record { size = c.self.inside.meaning.now.size; number = c.self.inside.number; chips = c.self.inside.chips; stopped = c.self.inside.stopped; page = c.self.inside.page; reads = c.self.inside.reads }) c.args.want.now w.in-Some.field-0 step why w.in-Some.is so))
      | in-None w ↦
          subst (λ page. IsShown c.args.self.now c.args.want.now [] (No step why) (record { reads = c.self.inside.reads; page = page })) (sym w.page-is)
          (subst (λ (f : Fed). IsShown f c.args.want.now [] (No step why) (record { reads = c.self.inside.reads; page = w.page-page.result })) c.self.view_is
          (ends_shown c.args.want.now _ c.self.inside.number c.self.inside.page w.page-page.result c.self.inside.reads c.self.inside.chips c.self.inside.stopped _ step why
          w.in-None.is w.page-page.ensures
          (ends_now c.args.want.now _ c.self.inside.number c.self.inside.page c.self.inside.reads c.self.inside.chips c.self.inside.stopped w.in-None.is ∙ so)))
    ]
