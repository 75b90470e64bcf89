-- One step more.
use Rattle.std.proofs.Common.{arith}
use Rattle.nor_cells.proofs.TouchedLemmas.{mode_next, marked_next, marked_to_end}
use Rattle.nor_cells.proofs.touched.mark_steps.Goals as goal

pub loop-step-preserved : goal.loop-step-preserved
loop-step-preserved c = record {
  mode = mode_next c.args.meaning.now c.args.mode4 c.loop-step.mode4 c.mark_step-mode4.result c.args.steps.now c.loop-step.step-index c.step-item.result c.loop-step-test.true
      c.step-item.is c.loop-step.invariant.mode c.mark_step-mode4.ensures.mode;
  marked = marked_next c.args.meaning.now c.args.mode4 c.loop-step.mode4 c.args.steps.now c.loop-step.step-index c.step-item.result c.args.marks.now c.loop-step.marks
      c.mark_step-mode4.new.marks c.loop-step-test.true c.step-item.is c.loop-step.invariant.mode c.loop-step.invariant.marked c.mark_step-mode4.ensures.marked;
}

pub returns-clause-marked : goal.returns-clause-marked
returns-clause-marked c =
    marked_to_end c.args.meaning.now c.args.mode4 c.args.steps.now c.loop-step.step-index c.args.marks.now c.loop-step.marks (omega (arith, c.loop-step-test.false))
    c.loop-step.invariant.marked
