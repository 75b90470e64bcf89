-- How a device does the steps of a script window after window, and where it stops (this project's).
use Rattle.std.specs.Prelude.{◌≡◌, ℕ, List, ◌∷◌, ◌++◌, length}
use Rattle.nor_base.specs.Parameters.{Parameters}
use Rattle.nor_base.specs.Wire.{Wire}
use Rattle.nor_base.specs.declared.step.Step.{Step}
use Rattle.nor_serprog.specs.Done.{HasDoneAll}
use Rattle.nor_serprog.specs.Row.{HasHalted}
use Rattle.nor_serprog.specs.declared.halt.Halt.{Halt}
use Rattle.nor_serprog.specs.declared.limits.Limits.{Limits}
use Rattle.norprog_device.specs.Reported.{IsFailureAt}
use Rattle.norprog_device.specs.declared.doing.Stop.{Stop}
use Rattle.norprog_device.specs.declared.failure.Failure.{Failure}
use Rattle.norprog_device.specs.declared.failure.Failure.TheVariants.{Memory}

-- how a device does steps: within which limits, with how many status reads of a poll at most, on a chip of which meaning
pub record Doing : Type 0 where
  pub limits : Limits
  pub turns : ℕ
  pub m : Parameters

-- this step wasn't done, for this reason
abbrev pub stop_at : ℕ → Failure → Stop
stop_at step why = record { step = step; why = why }

-- the device halted at one of the steps, which failed so
pub record HaltsIn (d : Doing) (before after : Wire) (steps : List Step) : Type 0 where
  pub halt : Halt
  pub why : Failure
  pub halted : HasHalted before after d.limits d.turns steps halt
  pub failed : IsFailureAt d.m steps halt why

-- the steps before this one were done, and nothing more was asked
pub record HasRested (d : Doing) (before after : Wire) (steps : List Step) (at : ℕ) : Type 0 where
  pub front : List Step
  pub next : Step
  pub rest : List Step
  pub those : steps ≡ front ++ (next ∷ rest)
  pub number : at ≡ length front
  pub done : HasDoneAll before after d.limits d.turns front

-- why not all steps are done: the device halted at one, which failed so; or memory was refused for those that come next
pub data StopsSteps (d : Doing) (before after : Wire) (steps : List Step) : Stop → Type 0 where
  FailedAt : (halts : HaltsIn d before after steps) → StopsSteps d before after steps (stop_at halts.halt.step halts.why)
  Starved : (step : ℕ) → HasRested d before after steps step → StopsSteps d before after steps (stop_at step Memory)
