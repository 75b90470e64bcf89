-- A step that borrows its clocks is the step of these clocks (this project's).
use Rattle.nor_base.specs.declared.step.Step.{Step}
use Rattle.nor_base.specs.declared.step.Step.TheVariants as step
use Rattle.nor_check.specs.declared.view.StepView.{StepView}
use Rattle.nor_check.specs.declared.view.StepView.TheVariants as view

abbrev pub step_of : StepView → Step
step_of (view.Send clocks) = step.Send clocks.now
step_of (view.Poll clocks) = step.Poll clocks.now
step_of (view.Verify clocks expect) = step.Verify clocks.now expect.now
