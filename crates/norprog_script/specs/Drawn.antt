-- What a waveform of a script's text is, and why there is none (this project's).
use Rattle.std.specs.Prelude.{◌≡◌, ◌⊎◌, ◌<◌, ℕ, List, length, take, drop, ⊤, Option, None, Some}
use Rattle.nor_base.specs.Script.{IsScript}
use Rattle.nor_base.specs.declared.step.Step.{Step}
use Rattle.nor_job.specs.declared.fault.BuildFault.TheVariants as fault
use Rattle.nor_script.specs.Faults.{IsFault}
use Rattle.norprog_common.specs.declared.faults.Refusal.{Refusal}
use Rattle.norprog_common.specs.declared.faults.Refusal.TheVariants.{Build, Script, Steps}

-- so many steps from one on; all from there on where no number is given
abbrev pub part : ℕ → Option ℕ → List Step → List Step
part from None steps = drop from steps
part from (Some count) steps = take count (drop from steps)

-- there is a step of this number; the first may be missing
abbrev pub IsThere : ℕ → List Step → Type 0
IsThere from steps = (from ≡ 0) ⊎ (from < length steps)

-- the text spells this number of steps, none of which has the number `from`
pub record LacksStep (text : List ℕ) (from number : ℕ) : Type 0 where
  pub steps : List Step
  pub script : IsScript text steps
  pub told : number ≡ length steps
  pub none : IsThere from steps → ⊥

-- why there are no steps to draw: the text is no script, or has no such step; or a growth was refused
abbrev pub RefusesSteps : List ℕ → ℕ → Refusal → Type 0
RefusesSteps text from (Script why) = IsFault text why
RefusesSteps text from (Steps number) = LacksStep text from number
RefusesSteps text from (Build fault.Memory) = ⊤
RefusesSteps text from other = ⊥
