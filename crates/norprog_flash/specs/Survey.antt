-- All steps of work, looked at before the first is sent (this project's).
use Rattle.std.specs.Prelude.{◌≡◌, ⊤, List, ◌++◌, length}
use Rattle.nor_base.specs.declared.step.Step.{Step}
use Rattle.nor_serprog.specs.declared.limits.Limits.{Limits}
use Rattle.nor_serprog.specs.Steps.{AreCarried, IsFirstNotCarried}
use Rattle.norprog.specs.Stepper.{steps_by, steps_upto}
use Rattle.norprog.specs.Update.{Update}
use Rattle.norprog_flash.specs.declared.survey.Unbegun.{Unbegun}
use Rattle.norprog_flash.specs.declared.survey.Unbegun.TheVariants.{Carried, Memory}

-- a device can do each step, and these are the last, after those of the windows
pub record AreSurveyed (limits : Limits) (u : Update) (last : List Step) : Type 0 where
  pub carried : AreCarried limits (steps_by u)
  pub whole : steps_by u ≡ steps_upto u (length u.have) ++ last

-- it can't do this one of the steps; or a growth was refused
abbrev pub IsUnbegun : Limits → List Step → Unbegun → Type 0
IsUnbegun limits steps (Carried step) = IsFirstNotCarried limits steps step
IsUnbegun limits steps Memory = ⊤
