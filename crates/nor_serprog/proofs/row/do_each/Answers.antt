-- One step more.
use Rattle.std.proofs.Common.{◌+◌, ◌∙◌, ap}
use Rattle.nor_serprog.proofs.RowLemmas.{done_next, halts_at}
use Rattle.nor_serprog.proofs.row.do_each.Goals as goal

pub returns-in-Err-clause-done : goal.returns-in-Err-clause-done
returns-in-Err-clause-done g c =
    halts_at _ _ _ _ _ _ c.args.limits.now c.args.turns c.args.row.now c.loop-step.step-index c.step-item.result _ c.loop-step-test.true c.step-item.is c.loop-step.invariant.number
    c.loop-step.invariant.does c.in-Err.ensures.done

pub loop-step-preserved : goal.loop-step-preserved
loop-step-preserved g c = record {
  does = done_next _ _ _ _ _ _ c.args.limits.now c.args.turns c.args.row.now c.loop-step.step-index c.step-item.result c.loop-step-test.true c.step-item.is c.loop-step.invariant.does
      c.in_default.ensures.done;
  reads = c.in_default.ensures.counts.0 ∙ c.loop-step.invariant.reads;
  writes = c.in_default.ensures.counts.1 ∙ c.loop-step.invariant.writes;
  number = ap (λ n. n + 1) c.loop-step.invariant.number;
}
