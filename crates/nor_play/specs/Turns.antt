-- What the transactions of one step do to what a port shows.
use Rattle.std.specs.Prelude.{◌≡◌, ℕ, ◌≤◌, ⊤, List, length, Result, Ok, Err}
use Rattle.nor_base.specs.Device.{one_more}
use Rattle.nor_base.specs.declared.step.Step.{Step}
use Rattle.nor_base.specs.declared.wrong.Wrong.{Wrong}
use Rattle.nor_base.specs.Effect.{effect}
use Rattle.nor_base.specs.Port.{Shown}
use Rattle.nor_base.specs.Run.{step, step_for, step_trail}
use Rattle.nor_play.specs.declared.fault.Halt.{Halt}
use Rattle.nor_play.specs.declared.fault.Halt.TheVariants as halt

-- one transaction of these clocks gave these bytes
abbrev pub Gives : Shown → Shown → List ℕ → List ℕ → Type 0
Gives before after clocks given = (after.setting ≡ before.setting) × (effect before.setting before.chip clocks ≡ Ok (after.chip, given))

-- or it halted so
abbrev pub Halts : Shown → Shown → List ℕ → Halt → Type 0
Halts before after clocks (halt.Wrong why) = (after ≡ before) × (effect before.setting before.chip clocks ≡ Err why)
Halts before after clocks halt.Failed = ⊤
Halts before after clocks halt.Memory = after ≡ before

-- a step was played, by this many transactions
pub record EndsStep (before after : Shown) (limit : ℕ) (step_played : Step) (count : ℕ) : Type 0 where
  pub setting : after.setting ≡ before.setting
  pub bounded : step_for before.setting limit before.chip step_played ≡ Ok after.chip
  pub whole : step before.setting before.chip step_played ≡ Ok after.chip
  pub counted : count ≡ length (step_trail before.setting before.chip step_played)
  pub few : count ≤ limit

-- it goes wrong so, and leaves this chip
pub record StopsStep (before after : Shown) (limit : ℕ) (step_played : Step) (why : Wrong) : Type 0 where
  pub setting : after.setting ≡ before.setting
  pub stops : step_for before.setting limit before.chip step_played ≡ Err (record { why = why; chip = after.chip })

abbrev pub PlaysStep : Shown → Shown → ℕ → Step → Result ℕ Halt → Type 0
PlaysStep before after limit step_played (Ok count) = EndsStep before after limit step_played count
PlaysStep before after limit step_played (Err (halt.Wrong why)) = StopsStep before after limit step_played why
PlaysStep before after limit step_played (Err halt.Failed) = ⊤
PlaysStep before after limit step_played (Err halt.Memory) = after ≡ before

-- the port's count of failures rises by one exactly at Failed
abbrev pub CountsHalt : {A : Type 0} → ℕ → ℕ → Result A Halt → Type 0
CountsHalt before after (Ok x) = after ≡ before
CountsHalt before after (Err (halt.Wrong why)) = after ≡ before
CountsHalt before after (Err halt.Failed) = after ≡ one_more before
CountsHalt before after (Err halt.Memory) = after ≡ before
