-- One more of them.
use Rattle.std.proofs.Common.{[], true, ◌∙◌, ap}
use Rattle.nor_check.specs.Chips.{Together, one_like, last_settled}
use Rattle.nor_check.specs.Order.{earlier}
use Rattle.nor_check.specs.Outcome.{at_end}
use Rattle.nor_check.proofs.OneVerdict.{earliest_more}
use Rattle.nor_check.proofs.pages.earliest.Goals as goal

pub loop-chips-preserved : goal.loop-chips-preserved
loop-chips-preserved c =
    earliest_more (λ t. at_end (one_like t.kind [] true) c.args.target.now c.args.steps (last_settled t.chips)) c.loop-chips.worst _ c.args.all.now c.loop-chips.chips-index
    c.chips-item.result c.earlier-worst.result c.loop-chips-test.true c.loop-chips.invariant
    (c.earlier-worst.ensures ∙ ap (earlier c.loop-chips.worst) (c.verdict.ensures
    ∙ ap (λ (t : Together). at_end (one_like t.kind [] true) c.args.target.now c.args.steps (last_settled t.chips)) c.chips-item.is))
