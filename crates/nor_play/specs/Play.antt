-- What a player does to what a port shows.
use Rattle.std.specs.Prelude.{◌≡◌, ℕ, ◌<◌, if◌then◌else◌, List, length, take, Result, Ok, Err}
use Rattle.nor_base.specs.Device.{one_more}
use Rattle.nor_base.specs.declared.step.Step.{Step}
use Rattle.nor_base.specs.declared.wrong.Wrong.TheVariants as wrong
use Rattle.nor_base.specs.Chip.{Setting, Chip, is_settled}
use Rattle.nor_base.specs.Port.{Shown}
use Rattle.nor_base.specs.Run.{Stop, played, trail}
use Rattle.nor_play.specs.declared.fault.PlayFault.{PlayFault}
use Rattle.nor_play.specs.declared.fault.PlayFault.TheVariants as fault

-- the end of a run of so many steps: NotIdleAtEnd where the chip isn't settled then
abbrev pub at_end : Setting → ℕ → Result Chip Stop → Result Chip Stop
at_end s count (Ok c) = if is_settled s c then Ok c else Err (record { at = count; why = wrong.NotIdleAtEnd; chip = c })
at_end s count (Err stop) = Err stop

-- the bounded run, with its end
abbrev pub play : Setting → ℕ → Chip → List Step → Result Chip Stop
play s limit c steps = at_end s (length steps) (played s limit c steps)

-- the play of the steps ends so: with this chip, after this many transactions
pub record EndsPlay (before after : Shown) (limit : ℕ) (steps : List Step) (count : ℕ) : Type 0 where
  pub setting : after.setting ≡ before.setting
  pub ends : play before.setting limit before.chip steps ≡ Ok after.chip
  pub counted : count ≡ length (trail before.setting before.chip steps)

-- the steps before this one were played; then a transaction of this one failed
pub record FailsPlay (before : Shown) (limit : ℕ) (steps : List Step) (at : ℕ) : Type 0 where
  pub within : at < length steps
  pub chip : Chip
  pub reached : played before.setting limit before.chip (take at steps) ≡ Ok chip

-- some first steps were played, and no transaction of another one was done
pub record LeavesPlay (before after : Shown) (limit : ℕ) (steps : List Step) : Type 0 where
  pub at : ℕ
  pub within : at < length steps
  pub setting : after.setting ≡ before.setting
  pub reached : played before.setting limit before.chip (take at steps) ≡ Ok after.chip

-- what an answer of the player says of what the port showed before and after
abbrev pub Plays : Shown → Shown → ℕ → List Step → Result ℕ PlayFault → Type 0
Plays before after limit steps (Ok count) = EndsPlay before after limit steps count
Plays before after limit steps (Err (fault.Wrong at why)) =
    (after.setting ≡ before.setting) × (play before.setting limit before.chip steps ≡ Err (record { at = at; why = why; chip = after.chip }))
Plays before after limit steps (Err (fault.PortFailed at)) = FailsPlay before limit steps at
Plays before after limit steps (Err fault.Memory) = LeavesPlay before after limit steps

-- the port's count of failures rises by one exactly at PortFailed
abbrev pub CountsPlay : ℕ → ℕ → Result ℕ PlayFault → Type 0
CountsPlay before after (Ok count) = after ≡ before
CountsPlay before after (Err (fault.Wrong at why)) = after ≡ before
CountsPlay before after (Err (fault.PortFailed at)) = after ≡ one_more before
CountsPlay before after (Err fault.Memory) = after ≡ before
