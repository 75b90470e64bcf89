-- One request more.
use Rattle.std.proofs.Common.{◌++◌, length-append, arith}
use Rattle.nor_serprog.proofs.RowLemmas.{asked_next}
use Rattle.nor_serprog.proofs.row.ahead_count.Goals as goal

pub loop-count-preserved : goal.loop-count-preserved
loop-count-preserved c =
    let far = c.loop-count.invariant in
    let its = c.in-Some.ensures in (
      far.0 ++ its.0,
      asked_next c.args.limits.now 1 c.args.steps.now c.loop-count.count c.index-steps-count.result far.0 its.0 c.loop-count-test.true c.index-steps-count.is far.1 its.1,
      omega (arith, far.2, its.2, length-append far.0 its.0, c.if-bytes-room.true),
    )
