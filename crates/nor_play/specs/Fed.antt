-- A player that is fed its steps one by one (this project's).
use Rattle.std.specs.Prelude.{ℕ, ◌+◌, if◌then◌else◌, Result, Ok, Err}
use Rattle.nor_base.specs.declared.wrong.Wrong.TheVariants as wrong
use Rattle.nor_base.specs.Chip.{is_settled}
use Rattle.nor_base.specs.Port.{Shown}
use Rattle.nor_play.specs.declared.fault.PlayFault.{PlayFault}
use Rattle.nor_play.specs.declared.fault.PlayFault.TheVariants as fault

-- how often it tries a poll, how many steps were played, and by how many transactions
pub record Player : Type 0 where
  pub limit : ℕ
  pub number : ℕ
  pub done : ℕ

-- before the first step
abbrev pub begun : ℕ → Player
begun limit = record { limit = limit; number = 0; done = 0 }

-- after a step that answered so: one more step where it was played, by so many transactions
abbrev pub past : Player → Result ℕ PlayFault → Player
past player (Ok turns) = record { limit = player.limit; number = player.number + 1; done = player.done + turns }
past player (Err fault) = player

-- what it answers at the end, of what the port shows then
abbrev pub ending : Player → Shown → Result ℕ PlayFault
ending player shown = if is_settled shown.setting shown.chip then Ok player.done else Err (fault.Wrong player.number wrong.NotIdleAtEnd)
