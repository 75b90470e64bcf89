-- One answer more.
use Rattle.std.proofs.Common.{◌+◌, ◌∙◌, ap, rules}
use Rattle.nor_serprog.proofs.RowLemmas.{taken_next, answers_stop}
use Rattle.nor_serprog.proofs.row.take_answers.Goals as goal

pub returns-in-Err-clause-done : goal.returns-in-Err-clause-done
returns-in-Err-clause-done g c =
    answers_stop _ _ _ c.args.steps.now c.loop-step.step-index c.step-item.result _ c.loop-step-test.true c.step-item.is c.loop-step.invariant.number
    c.loop-step.invariant.taken (search rules)

pub loop-step-preserved : goal.loop-step-preserved
loop-step-preserved g c = record {
  taken = taken_next _ _ _ c.args.steps.now c.loop-step.step-index c.step-item.result c.loop-step-test.true c.step-item.is c.loop-step.invariant.taken (search rules);
  reads = c.in_default.ensures.reads ∙ c.loop-step.invariant.reads;
  number = ap (λ n. n + 1) c.loop-step.invariant.number;
}
