-- What is known of a play before a device is asked (this project's).
use Rattle.std.specs.Prelude.{◌≡◌, ℕ, ◌^◌, ◌-◌, false, List, [], length, Ok, Err}
use Rattle.nor_base.specs.declared.meaning.Start.{Start}
use Rattle.nor_base.specs.declared.step.Step.{Step}
use Rattle.nor_base.specs.declared.wrong.Wrong.{Wrong}
use Rattle.nor_base.specs.Chip.{Chip, chip_of}
use Rattle.nor_base.specs.Parameters.{Parameters}
use Rattle.nor_base.specs.Port.{Shown}
use Rattle.nor_chip.specs.Ready.{ready_chip}
use Rattle.nor_play.specs.Play.{play}
use Rattle.norprog_device.specs.declared.failure.Failure.TheVariants.{Carried}
use Rattle.nor_serprog.specs.declared.limits.Limits.{Limits}
use Rattle.nor_serprog.specs.Steps.{AreCarried, IsFirstNotCarried}
use Rattle.norprog_player.specs.declared.early.Early.{Early}
use Rattle.norprog_player.specs.declared.early.Early.TheVariants.{Ends, Goes}
use Rattle.norprog_player.specs.declared.ending.Ending.{Ending}
use Rattle.norprog_player.specs.declared.ending.Ending.TheVariants.{Wrong as GoesWrong, No, Failed}
use Rattle.norprog_player.specs.declared.early.Rehearsed.{Rehearsed}
use Rattle.norprog_player.specs.Put.{ArePut}
use Rattle.norprog_player.specs.Rehearsal.{DoesSame, DoesOther}

-- a ready chip that is never busy, with this content
abbrev pub chip_with : Parameters → Start → List ℕ → Shown
chip_with m start content = ready_chip (chip_of m start [] false) content

-- no device can do more bytes in one operation: a request has three bytes for their number
pub record AreWidest (limits : Limits) : Type 0 where
  pub sent : limits.sent ≡ 2 ^ 24 - 1
  pub asked : limits.asked ≡ 2 ^ 24 - 1

-- the steps go wrong so on the chip in memory
abbrev pub GoesWrongInMemory : Shown → List Step → ℕ → Wrong → Type 0
GoesWrongInMemory shown steps at why = (left : Chip) × (play shown.setting 1 shown.chip steps ≡ Err (record { at = at; why = why; chip = left }))

-- they go well on it
abbrev pub GoesWellInMemory : Shown → List Step → Type 0
GoesWellInMemory shown steps = (left : Chip) × (play shown.setting 1 shown.chip steps ≡ Ok left)

-- they do the same on every chip, and this one is the first that is no operation of any device
pub record IsFirstOfNone (shown : Shown) (steps : List Step) (at : ℕ) : Type 0 where
  pub same : DoesSame shown.setting shown.chip steps
  pub limits : Limits
  pub widest : AreWidest limits
  pub first : IsFirstNotCarried limits steps at

-- they go well on it and leave these bytes; they do the same on every chip of its meaning and start, and each is an operation of some device;
-- and so a device does them
pub record MayPlay (shown : Shown) (steps : List Step) (r : Rehearsed) : Type 0 where
  pub same : DoesSame shown.setting shown.chip steps
  pub left : r.left.items ≡ same.left.array
  pub whole : length r.left.items ≡ length shown.chip.array
  pub limits : Limits
  pub widest : AreWidest limits
  pub carried : AreCarried limits steps
  pub put : ArePut shown steps r.steps

-- they end so whatever the device is
abbrev pub EndsInMemory : Shown → List Step → Ending → Type 0
EndsInMemory shown steps (GoesWrong at why) = GoesWrongInMemory shown steps at why
EndsInMemory shown steps (No at why) = DoesOther shown.setting shown.chip steps at why
EndsInMemory shown steps (Failed at Carried) = IsFirstOfNone shown steps at
EndsInMemory shown steps other = ⊥

-- so, or they may be played
abbrev pub EndsEarly : Shown → List Step → Early → Type 0
EndsEarly shown steps (Ends ending) = EndsInMemory shown steps ending
EndsEarly shown steps (Goes rehearsed) = MayPlay shown steps rehearsed
