-- One request more.
use Rattle.nor_serprog.proofs.RowLemmas.{sent_next}
use Rattle.nor_serprog.proofs.row.gathered.Goals as goal

pub loop-step-preserved : goal.loop-step-preserved
loop-step-preserved c =
    let its = c.if-not-add_step.ensures in
    sent_next c.args.limits.now c.args.steps.now c.loop-step.step-index c.step-item.result c.loop-step.requests.items c.add_step.new.requests.items its.0
    c.loop-step-test.true c.step-item.is c.loop-step.invariant its.1 its.2
