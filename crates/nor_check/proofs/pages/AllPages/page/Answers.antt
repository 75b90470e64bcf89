-- That of one page, or of the earliest of all.
use Rattle.std.proofs.Common.{[], ◌∷◌, true, List, ap, sym, subst, ◌∙◌}
use Rattle.nor_check.specs.Chips.{Together, one_like, last_settled}
use Rattle.nor_check.specs.Outcome.{at_end}
use Rattle.nor_check.specs.Pages.{IsJudgedBy, page_by_page, worst_of}
use Rattle.nor_check.proofs.Spread.{alike_end}
use Rattle.nor_check.proofs.Witnessed.{own_judged}
use Rattle.nor_check.proofs.pages.AllPages.page.Goals as goal

pub returns-then-self : goal.returns-then-self
returns-then-self c =
    subst (IsJudgedBy (λ (t : Together). at_end (one_like t.kind [] true) c.args.target.now c.args.steps (last_settled t.chips)) c.args.self.now (worst_of (λ (t : Together). at_end (one_like t.kind [] true) c.args.target.now c.args.steps (last_settled t.chips)) c.args.self.now)) (sym c.page.ensures)
    (own_judged (λ (t : Together). at_end (one_like t.kind [] true) c.args.target.now c.args.steps (last_settled t.chips)) c.self.inside.alike c.self.inside.own c.self.inside.others.items c.args.self.now (worst_of (λ (t : Together). at_end (one_like t.kind [] true) c.args.target.now c.args.steps (last_settled t.chips)) c.args.self.now) c.if-self.true c.self.view_is c.self.invariant
    (alike_end c.args.target.now c.args.steps c.self.inside.own
    ∙ ap (λ b. worst_of (λ (t : Together). at_end (one_like t.kind [] true) c.args.target.now c.args.steps (last_settled t.chips)) (page_by_page b c.self.inside.own c.self.inside.others.items)) (sym c.if-self.true) ∙ ap (worst_of (λ (t : Together). at_end (one_like t.kind [] true) c.args.target.now c.args.steps (last_settled t.chips))) c.self.view_is))

pub returns : goal.returns
returns c =
    subst (λ (ts : List Together). IsJudgedBy (λ (t : Together). at_end (one_like t.kind [] true) c.args.target.now c.args.steps (last_settled t.chips)) ts (worst_of (λ (t : Together). at_end (one_like t.kind [] true) c.args.target.now c.args.steps (last_settled t.chips)) ts) c.page_of_earliest.result)
    (ap (λ l. c.self.inside.own ∷ l) c.as_slice.ensures.value
    ∙ ap (λ b. page_by_page b c.self.inside.own c.self.inside.others.items) (sym c.if-self.false) ∙ c.self.view_is)
    c.page_of_earliest.ensures
