-- A step with its number.
use Rattle.std.specs.Prelude.{◌≡◌, ℕ, Result, Ok, Err}
use Rattle.nor_base.specs.declared.step.Step.{Step}
use Rattle.nor_base.specs.Port.{Shown}
use Rattle.nor_play.specs.declared.fault.PlayFault.{PlayFault}
use Rattle.nor_play.specs.declared.fault.PlayFault.TheVariants as fault
use Rattle.nor_play.specs.Fed.{Player}
use Rattle.nor_play.specs.Turns.{EndsStep, StopsStep}

-- what an answer of a player's next step says
abbrev pub PlaysNumbered : Shown → Shown → Player → Step → Result ℕ PlayFault → Type 0
PlaysNumbered before after player x (Ok count) = EndsStep before after player.limit x count
PlaysNumbered before after player x (Err (fault.Wrong at why)) = (at ≡ player.number) × StopsStep before after player.limit x why
PlaysNumbered before after player x (Err (fault.PortFailed at)) = at ≡ player.number
PlaysNumbered before after player x (Err fault.Memory) = after ≡ before
