-- The step that a borrowed step shows (this project's).
use Rattle.nor_base.specs.declared.step.Step.{Step}
use Rattle.nor_base.specs.declared.step.Step.TheVariants as step
use Rattle.nor_script.specs.declared.view.StepView.{StepView}
use Rattle.nor_script.specs.declared.view.StepView.TheVariants as view

-- the step of the same kind, with these clocks and these bytes
abbrev pub step_of : StepView → Step
step_of (view.Send clocks) = step.Send clocks.now
step_of (view.Poll clocks) = step.Poll clocks.now
step_of (view.Verify clocks expect) = step.Verify clocks.now expect.now
