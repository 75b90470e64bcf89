-- One step more.
use Rattle.std.proofs.Common.{◌∷◌, ◌+◌, ◌≤◌, Option, sym, subst, ◌∙◌, ap}
use Rattle.nor_check.specs.declared.verdict.Verdict.{Verdict}
use Rattle.nor_check.specs.Fed.{Fed, IsShown, to_come}
use Rattle.nor_check.specs.View.{step_of}
use Rattle.nor_check.proofs.Feeding.{stays, feeds, feeds_size, none_is}
use Rattle.nor_check.proofs.Witnessed.{feeds_shown, stays_shown, reads_most}
use Rattle.nor_check.proofs.checker.StepChecker.feed.Goals as goal

pub returns-then-is_some-clause-fed : goal.returns-then-is_some-clause-fed
returns-then-is_some-clause-fed c = λ want more.
    stays _ c.self.inside.page c.self.inside.reads c.self.inside.page c.self.inside.reads want c.self.inside.number (c.self.inside.number + 1) c.self.inside.chips c.self.inside.stopped (step_of c.args.step) more c.if-is_some.ensures
    ∙ ap (λ (f : Fed). to_come f want (step_of c.args.step ∷ more)) c.self.view_is

pub returns-then-is_some-clause-shown : goal.returns-then-is_some-clause-shown
returns-then-is_some-clause-shown c = λ want more v w h.
    subst (λ (f : Fed). IsShown f want (step_of c.args.step ∷ more) v w) c.self.view_is
    (stays_shown want _ c.self.inside.number (c.self.inside.number + 1) c.self.inside.page c.self.inside.reads c.self.inside.chips (step_of c.args.step) more
    c.self.inside.stopped v w c.if-is_some.ensures h)

pub invariant_of-self-2 : goal.invariant_of-self-2
invariant_of-self-2 c = (
  λ none.
      feeds_size c.self.inside.meaning.now.size c.self.inside.number c.self.inside.chips c.step.new.self (step_of c.args.step) c.in_ok-answer.answer
      (c.self.invariant.0 (none_is c.self.inside.stopped c.if-is_some.ensures)) c.in_ok-answer.ensures.step (sym c.verdict_at-self-inside.ensures ∙ none),
  subst (λ n. n ≤ c.self.inside.number + 1) (sym c.reads_after-self-inside.ensures)
      (reads_most c.self.inside.reads c.self.inside.number (step_of c.args.step) c.in_ok-answer.answer c.self.invariant.1),
)

pub returns-clause-fed : goal.returns-clause-fed
returns-clause-fed c = λ want more.
    ap (λ (o : Option Verdict). to_come (record { size = c.self.inside.meaning.now.size; number = c.self.inside.number + 1; chips = c.step.new.self; stopped = o; page = c.step.new.told; reads = c.reads_after-self-inside.result }) want more)
    c.verdict_at-self-inside.ensures
    ∙ feeds _ c.self.inside.page c.self.inside.reads c.step.new.told c.reads_after-self-inside.result want c.self.inside.number c.self.inside.chips c.step.new.self
    c.self.inside.stopped (step_of c.args.step) more c.in_ok-answer.answer c.if-is_some.ensures c.in_ok-answer.ensures.step
    ∙ ap (λ (f : Fed). to_come f want (step_of c.args.step ∷ more)) c.self.view_is

pub returns-clause-shown : goal.returns-clause-shown
returns-clause-shown c = λ want more v w h.
    subst (λ (f : Fed). IsShown f want (step_of c.args.step ∷ more) v w) c.self.view_is
    (feeds_shown want _ c.self.inside.number c.self.inside.reads c.reads_after-self-inside.result c.self.inside.page c.step.new.told c.self.inside.chips c.step.new.self
    (step_of c.args.step) more c.self.inside.stopped c.in_ok-answer.answer v w c.if-is_some.ensures c.in_ok-answer.ensures.step c.in_ok-answer.ensures.told
    c.reads_after-self-inside.ensures
    (subst (λ (o : Option Verdict). IsShown (record { size = c.self.inside.meaning.now.size; number = c.self.inside.number + 1; chips = c.step.new.self; stopped = o; page = c.step.new.told; reads = c.reads_after-self-inside.result }) want more v w) c.verdict_at-self-inside.ensures h))
