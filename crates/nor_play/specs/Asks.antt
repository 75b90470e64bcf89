-- How often a play asks its port for a transaction: asked n says that it was asked n times more.
use Rattle.std.specs.Prelude.{◌≡◌, ℕ, zero, suc, ◌+◌, ◌<◌, if◌then◌else◌, List, [], ◌∷◌, take, get_or, Result, Ok, Err, length}
use Rattle.std.specs.Str.{bytes_eq}
use Rattle.nor_base.specs.declared.step.Step.{Step}
use Rattle.nor_base.specs.declared.step.Step.TheVariants.{Send, Poll, Verify}
use Rattle.nor_base.specs.declared.wrong.Wrong.{Wrong}
use Rattle.nor_base.specs.Chip.{Setting, Chip}
use Rattle.nor_base.specs.Effect.{effect}
use Rattle.nor_base.specs.Port.{Shown}
use Rattle.nor_base.specs.Run.{Halt, poll_clocks, says_busy, is_verify, step_for, played}
use Rattle.nor_play.specs.declared.fault.Halt.{Halt as Stopped}
use Rattle.nor_play.specs.declared.fault.Halt.TheVariants as halt
use Rattle.nor_play.specs.declared.fault.PlayFault.{PlayFault}
use Rattle.nor_play.specs.declared.fault.PlayFault.TheVariants as fault

-- what follows a turn: more of them where it said busy
abbrev pub turns_on : Result (Chip × List ℕ) Wrong → (Chip → ℕ) → ℕ
turns_on (Err why) more = 0
turns_on (Ok done) more = if says_busy done.1 then more done.0 else 0

-- the turns of a poll of at most so many: up to the first that says idle or is refused
unfoldable pub turns_for : Setting → ℕ → Chip → ℕ
turns_for s zero c = 0
turns_for s (suc turns) c = suc (turns_on (effect s c poll_clocks) (turns_for s turns))

-- the transactions of a step
unfoldable pub asks_of : Setting → ℕ → Chip → Step → ℕ
asks_of s limit c (Send clocks) = 1
asks_of s limit c (Poll clocks) = if bytes_eq clocks poll_clocks then turns_for s limit c else 0
asks_of s limit c (Verify clocks expect) = if is_verify clocks then 1 else 0

abbrev pub asks_after : Result Chip Halt → (Chip → ℕ) → ℕ
asks_after (Ok c) more = more c
asks_after (Err stopped) more = 0

-- the transactions of steps, as far as a play goes
unfoldable pub asks : Setting → ℕ → Chip → List Step → ℕ
asks s limit c [] = 0
asks s limit c (x ∷ xs) = asks_of s limit c x + asks_after (step_for s limit c x) (λ d. asks s limit d xs)

-- so many turns were done, and the next one of those that there were to be was asked for as well
abbrev pub AsksPart : (ℕ → Type 0) → ℕ → ℕ → Type 0
AsksPart asked done all = (turns : ℕ) × (turns < all) × asked (done + turns + 1)

-- one transaction was asked for, unless memory was wanted first
abbrev pub AsksOnce : {A : Type 0} → (ℕ → Type 0) → Result A Stopped → Type 0
AsksOnce asked (Err halt.Memory) = asked 0
AsksOnce asked answer = asked 1

-- what a step asked, by its answer
abbrev pub AsksStep : Shown → (ℕ → Type 0) → ℕ → Step → Result ℕ Stopped → Type 0
AsksStep shown asked limit x (Ok count) = (count ≡ asks_of shown.setting limit shown.chip x) × asked count
AsksStep shown asked limit x (Err (halt.Wrong why)) = asked (asks_of shown.setting limit shown.chip x)
AsksStep shown asked limit x (Err halt.Failed) = AsksPart asked 0 (asks_of shown.setting limit shown.chip x)
AsksStep shown asked limit x (Err halt.Memory) = asked 0

-- the same by the answer that has the step's number
abbrev pub AsksNumbered : Shown → (ℕ → Type 0) → ℕ → Step → Result ℕ PlayFault → Type 0
AsksNumbered shown asked limit x (Ok count) = (count ≡ asks_of shown.setting limit shown.chip x) × asked count
AsksNumbered shown asked limit x (Err (fault.Wrong at why)) = asked (asks_of shown.setting limit shown.chip x)
AsksNumbered shown asked limit x (Err (fault.PortFailed at)) = AsksPart asked 0 (asks_of shown.setting limit shown.chip x)
AsksNumbered shown asked limit x (Err fault.Memory) = asked 0

-- a transaction of this step failed: those of the steps before it were asked for, some turns of its own, and that one
pub record FailsAsking (shown : Shown) (asked : ℕ → Type 0) (limit : ℕ) (steps : List Step) (at : ℕ) : Type 0 where
  pub within : at < length steps
  pub chip : Chip
  pub reached : played shown.setting limit shown.chip (take at steps) ≡ Ok chip
  pub failed : Step
  pub is : failed ≡ get_or steps at failed
  pub asks_so : AsksPart asked (asks shown.setting limit shown.chip (take at steps)) (asks_of shown.setting limit chip failed)

-- no transaction of this step was asked for, all of those before it were
pub record LeavesAsking (shown : Shown) (asked : ℕ → Type 0) (limit : ℕ) (steps : List Step) : Type 0 where
  pub at : ℕ
  pub within : at < length steps
  pub asks_so : asked (asks shown.setting limit shown.chip (take at steps))

-- what a play asked, by its answer
abbrev pub AsksPlay : Shown → (ℕ → Type 0) → ℕ → List Step → Result ℕ PlayFault → Type 0
AsksPlay shown asked limit steps (Ok count) = (count ≡ asks shown.setting limit shown.chip steps) × asked count
AsksPlay shown asked limit steps (Err (fault.Wrong at why)) = asked (asks shown.setting limit shown.chip steps)
AsksPlay shown asked limit steps (Err (fault.PortFailed at)) = FailsAsking shown asked limit steps at
AsksPlay shown asked limit steps (Err fault.Memory) = LeavesAsking shown asked limit steps
