-- One more of them.
use Rattle.std.proofs.Common.{[], ◌∷◌, true, sym, refl, inl, ◌∙◌, ap, subst}
use Rattle.std.proofs.Math.ListN.{drop_of_length-le}
use Rattle.nor_check.specs.declared.verdict.Verdict.{Verdict}
use Rattle.nor_check.specs.Chips.{Together, one_like, last_settled}
use Rattle.nor_check.specs.Order.{earlier}
use Rattle.nor_check.specs.Outcome.{at_end}
use Rattle.nor_check.specs.Pages.{IsJudgedBy, worst_of}
use Rattle.nor_check.proofs.OneVerdict.{earliest_more}
use Rattle.nor_check.proofs.Witnessed.{more_judged}
use Rattle.nor_check.proofs.pages.page_of_earliest.Goals as goal

pub loop-chips-init : goal.loop-chips-init
loop-chips-init c = record {
  earliest = ap (λ v. earlier v (worst_of (λ (t : Together). at_end (one_like t.kind [] true) c.args.target.now c.args.steps (last_settled t.chips)) c.args.all.now)) (sym c.verdict-worst.ensures);
  page = record { these = c.args.own.now; among = inl refl; its_page = sym c.page-page.ensures; so = sym c.verdict-worst.ensures };
}

pub loop-chips-preserved : goal.loop-chips-preserved
loop-chips-preserved c =
    let so = c.verdict-verdict.ensures ∙ ap (λ (t : Together). at_end (one_like t.kind [] true) c.args.target.now c.args.steps (last_settled t.chips)) c.chips-item.is in
    record {
      earliest = earliest_more (λ (t : Together). at_end (one_like t.kind [] true) c.args.target.now c.args.steps (last_settled t.chips)) c.loop-chips.worst _ c.args.all.now c.loop-chips.chips-index c.chips-item.result c.earlier-worst.result c.loop-chips-test.true
          c.loop-chips.invariant.earliest (c.earlier-worst.ensures ∙ ap (earlier c.loop-chips.worst) so);
      page = more_judged (λ (t : Together). at_end (one_like t.kind [] true) c.args.target.now c.args.steps (last_settled t.chips)) c.args.own.now c.args.all.now c.loop-chips.chips-index c.chips-item.result c.loop-chips.worst c.verdict-verdict.result c.earlier-worst.result
          c.loop-chips.page c.page-next.result c.page_of-page.result c.loop-chips-test.true (sym so)
          (c.page-next.ensures ∙ ap (λ (t : Together). t.kind.page) c.chips-item.is) c.page_of-page.ensures c.earlier-worst.ensures c.loop-chips.invariant.page;
    }

pub returns : goal.returns
returns c =
    subst (λ (v : Verdict). IsJudgedBy (λ (t : Together). at_end (one_like t.kind [] true) c.args.target.now c.args.steps (last_settled t.chips)) (c.args.own.now ∷ c.args.all.now) v c.loop-chips.page)
    (sym (c.loop-chips.invariant.earliest ∙ ap (λ l. earlier c.loop-chips.worst (worst_of (λ (t : Together). at_end (one_like t.kind [] true) c.args.target.now c.args.steps (last_settled t.chips)) l)) (drop_of_length-le c.args.all.now c.loop-chips-test.false)))
    c.loop-chips.invariant.page
