-- One step more, a step that is cut, and the last one.
use Rattle.std.proofs.Common.{◌∙◌, refl}
use Rattle.nor_base.proofs.DeviceLaws.{Writes-cut}
use Rattle.nor_waves.proofs.DrawLemmas.{none_drawn, more_drawn, cut_drawn, step_left}
use Rattle.nor_waves.proofs.drawing.Drawing.put_steps.Goals as goal

pub loop-step-init : goal.loop-step-init
loop-step-init g c = record { drawn = none_drawn c.args.self _ _; count = refl }

pub loop-step-preserved : goal.loop-step-preserved
loop-step-preserved g c = record {
  drawn = more_drawn _ _ _ _ c.loop-step.at _ c.loop-step.invariant.drawn _ _ _ _
      (step_left c.args.steps.now c.loop-step.step-index _ c.step-item.is c.loop-step-test.true) c.in_ok-at.ensures.bytes c.in_ok-at.ensures.drawn;
  count = c.in_ok-at.ensures.count ∙ c.loop-step.invariant.count;
}

pub returns-in_err-at-clause-bytes : goal.returns-in_err-at-clause-bytes
returns-in_err-at-clause-bytes g c =
    Writes-cut _ _ _ _ c.from_residual.ensures.0
    (cut_drawn _ _ _ _ c.loop-step.at _ c.loop-step.invariant.drawn _ _ _
    (step_left c.args.steps.now c.loop-step.step-index _ c.step-item.is c.loop-step-test.true) c.in_err-at.ensures.bytes)
