-- The end of one page, or the earliest of all.
use Rattle.std.proofs.Common.{[], true, false, ap, sym, ◌∙◌}
use Rattle.nor_check.specs.Chips.{one_like, last_settled}
use Rattle.nor_check.specs.Order.{earlier}
use Rattle.nor_check.specs.Outcome.{at_end}
use Rattle.nor_check.specs.Pages.{page_by_page, worst_of}
use Rattle.nor_check.proofs.Spread.{alike_end}
use Rattle.nor_check.proofs.pages.AllPages.verdict.Goals as goal

pub returns-then-self : goal.returns-then-self
returns-then-self c =
    c.verdict-own.ensures ∙ alike_end c.args.target.now c.args.steps c.self.inside.own
    ∙ ap (λ b. worst_of (λ t. at_end (one_like t.kind [] true) c.args.target.now c.args.steps (last_settled t.chips)) (page_by_page b c.self.inside.own c.self.inside.others.items))
    (sym c.if-self.true)
    ∙ ap (worst_of (λ t. at_end (one_like t.kind [] true) c.args.target.now c.args.steps (last_settled t.chips))) c.self.view_is

pub returns : goal.returns
returns c =
    c.earliest.ensures
    ∙ ap (λ v. earlier v (worst_of (λ t. at_end (one_like t.kind [] true) c.args.target.now c.args.steps (last_settled t.chips)) c.as_slice.result.now)) c.verdict-own.ensures
    ∙ ap (λ l. worst_of (λ t. at_end (one_like t.kind [] true) c.args.target.now c.args.steps (last_settled t.chips)) (page_by_page false c.self.inside.own l)) c.as_slice.ensures.value
    ∙ ap (λ b. worst_of (λ t. at_end (one_like t.kind [] true) c.args.target.now c.args.steps (last_settled t.chips)) (page_by_page b c.self.inside.own c.self.inside.others.items))
    (sym c.if-self.false)
    ∙ ap (worst_of (λ t. at_end (one_like t.kind [] true) c.args.target.now c.args.steps (last_settled t.chips))) c.self.view_is
