-- Steps that go well on a chip in memory, as a device does them (this project's).
use Rattle.std.specs.Prelude.{◌≡◌, ℕ, ◌==◌, if◌then◌else◌, List, [], ◌∷◌, All, length, Ok}
use Rattle.std.specs.Str.{bytes_eq}
use Rattle.nor_base.specs.declared.step.Step.{Step}
use Rattle.nor_base.specs.declared.step.Step.TheVariants.{Send, Poll, Verify}
use Rattle.nor_base.specs.Chip.{Chip}
use Rattle.nor_base.specs.Effect.{effect}
use Rattle.nor_base.specs.Port.{Shown, Transacts}
use Rattle.nor_base.specs.Run.{played, poll_clocks}
use Rattle.nor_base.specs.Step.{step_clocks}
use Rattle.nor_serprog.specs.Done.{IsDoable}

-- the chip in memory takes the transaction of these clocks
abbrev pub IsTaken : Shown → List ℕ → Type 0
IsTaken shown clocks = (chip : Chip) × (given : List ℕ) × (effect shown.setting shown.chip clocks ≡ Ok (chip, given))

-- the steps go well on it, a poll one status read
abbrev pub Goes : Shown → List Step → Type 0
Goes shown steps = (d : Chip) × (played shown.setting 1 shown.chip steps ≡ Ok d)

-- a step that is to give what the chip in memory gave: a Send too that samples something, except that a status read is waited for
abbrev pub put_as : Step → List ℕ → Step
put_as (Send clocks) given =
    if length given == 0 then Send clocks else (if bytes_eq clocks poll_clocks then Poll clocks else Verify clocks given)
put_as (Poll clocks) given = Poll clocks
put_as (Verify clocks expect) given = Verify clocks expect

-- the chip in memory did steps, one after the other, and these are to give what it gave
abbrev pub AreAnswered : Shown → List Step → List Step → Shown → Type 0
AreAnswered before [] put after = (put ≡ []) × (after ≡ before)
AreAnswered before (x ∷ xs) put after =
    (given : List ℕ) × (between : Shown) × (rest : List Step) × Transacts before between (Ok tt) (step_clocks x) given × (put ≡ put_as x given ∷ rest)
    × AreAnswered between xs rest after

-- what a device is to do for steps on a chip like that one: each is one that a device does
pub data ArePut (shown : Shown) (steps : List Step) : List Step → Type 0 where
  -- the steps themselves: what they send, they don't sample, so every chip does the same (`MayPlay.same`)
  Themselves : All IsDoable steps → ArePut shown steps steps
  -- some sample what they don't expect: that is to be what the chip in memory gives
  Answered : (put : List Step) (after : Shown) → AreAnswered shown steps put after → All IsDoable put → ArePut shown steps put
