-- What a list of steps does to a chip (this project's).
use Rattle.std.specs.Prelude.{◌≡◌, ℕ, zero, suc, Bool, true, ◌+◌, ◌%◌, ◌==◌, not, ◌&&◌, ◌||◌, if◌then◌else◌, List, [], ◌∷◌, ◌++◌, Result, Ok, Err, slice_index, codes, nat_eq}
use Rattle.std.specs.List.{list_any, starts_with}
use Rattle.std.specs.Str.{bytes_eq}
use Rattle.nor_base.specs.declared.step.Step.{Step}
use Rattle.nor_base.specs.declared.step.Step.TheVariants.{Send, Poll, Verify}
use Rattle.nor_base.specs.declared.meaning.Start.{Start}
use Rattle.nor_base.specs.declared.wrong.Wrong.{Wrong}
use Rattle.nor_base.specs.declared.wrong.Wrong.TheVariants as wrong
use Rattle.nor_base.specs.Parameters.{Parameters}
use Rattle.nor_base.specs.Decoding.{is_bit_sampled, is_nibble_sampled}
use Rattle.nor_base.specs.Chip.{Setting, Chip, IsChipOf, is_settled, ready}
use Rattle.nor_base.specs.Effect.{effect}

-- the clocks of a poll: read status, and one byte sampled
abbrev pub poll_clocks : List ℕ
poll_clocks = codes "00000101........"

-- bit 0 of the byte sampled, the busy bit, is 1
abbrev pub says_busy : List ℕ → Bool
says_busy bytes = slice_index bytes 0 % 2 == 1

abbrev pub poll_on : Result (Chip × List ℕ) Wrong → (Chip → Result Chip Wrong) → Result Chip Wrong
poll_on (Err why) again = Err why
poll_on (Ok done) again = if says_busy done.1 then again done.0 else Ok done.0

-- the status read again and again until it says idle, at most so many times; PollNever where each said busy
unfoldable pub polled : Setting → ℕ → Chip → Result Chip Wrong
polled s zero c = Err wrong.PollNever
polled s (suc turns) c = poll_on (effect s c poll_clocks) (polled s turns)

-- a clock of these samples something
abbrev pub samples_some : List ℕ → Bool
samples_some clocks = list_any (λ symbol. is_bit_sampled symbol || is_nibble_sampled symbol) clocks

-- a Verify's clocks sample something, and aren't a status read
unfoldable pub is_verify : List ℕ → Bool
is_verify clocks = samples_some clocks && not (starts_with nat_eq clocks (codes "00000101"))

-- the chip after a transaction, whatever it gave
abbrev pub done : Result (Chip × List ℕ) Wrong → Result Chip Wrong
done (Err why) = Err why
done (Ok after) = Ok after.0

-- the chip after a transaction that is to give these bytes
abbrev pub matched : List ℕ → Result (Chip × List ℕ) Wrong → Result Chip Wrong
matched expect (Err why) = Err why
matched expect (Ok after) = if bytes_eq after.1 expect then Ok after.0 else Err wrong.Mismatch

-- one step. A poll is repeated until idle: with n status reads left the one after these says so
unfoldable pub step : Setting → Chip → Step → Result Chip Wrong
step s c (Send clocks) = done (effect s c clocks)
step s c (Poll clocks) = if bytes_eq clocks poll_clocks then polled s (suc c.left) c else Err wrong.Unknown
step s c (Verify clocks expect) = if is_verify clocks then matched expect (effect s c clocks) else Err wrong.Unknown

-- where a run stops, why, and the chip as the steps before left it
pub record Stop : Type 0 where
  pub at : ℕ
  pub why : Wrong
  pub chip : Chip

-- a stop counted from one step earlier
abbrev pub one_later : Result Chip Stop → Result Chip Stop
one_later (Ok c) = Ok c
one_later (Err stop) = Err (record stop { at = stop.at + 1 })

abbrev pub go_on : Chip → Result Chip Wrong → (Chip → Result Chip Stop) → Result Chip Stop
go_on c (Ok d) rest = one_later (rest d)
go_on c (Err why) rest = Err (record { at = 0; why = why; chip = c })

-- the chip after the steps; a run stops at the first that is wrong
unfoldable pub run : Setting → Chip → List Step → Result Chip Stop
run s c [] = Ok c
run s c (x ∷ xs) = go_on c (step s c x) (λ d. run s d xs)

-- a poll, or a step, that goes wrong: why, and the chip then
pub record Halt : Type 0 where
  pub why : Wrong
  pub chip : Chip

abbrev pub halt_on : Chip → Result Chip Wrong → Result Chip Halt
halt_on c (Ok d) = Ok d
halt_on c (Err why) = Err (record { why = why; chip = c })

abbrev pub poll_or_halt : Chip → Result (Chip × List ℕ) Wrong → (Chip → Result Chip Halt) → Result Chip Halt
poll_or_halt c (Err why) again = Err (record { why = why; chip = c })
poll_or_halt c (Ok done) again = if says_busy done.1 then again done.0 else Ok done.0

-- the status read at most so many times; PollNever where each said busy, on the chip that they leave
unfoldable pub polled_for : Setting → ℕ → Chip → Result Chip Halt
polled_for s zero c = Err (record { why = wrong.PollNever; chip = c })
polled_for s (suc turns) c = poll_or_halt c (effect s c poll_clocks) (polled_for s turns)

-- one step of a player that polls at most so many times
unfoldable pub step_for : Setting → ℕ → Chip → Step → Result Chip Halt
step_for s limit c (Send clocks) = halt_on c (done (effect s c clocks))
step_for s limit c (Poll clocks) = if bytes_eq clocks poll_clocks then polled_for s limit c else Err (record { why = wrong.Unknown; chip = c })
step_for s limit c (Verify clocks expect) = halt_on c (if is_verify clocks then matched expect (effect s c clocks) else Err wrong.Unknown)

abbrev pub play_on : Result Chip Halt → (Chip → Result Chip Stop) → Result Chip Stop
play_on (Ok d) rest = one_later (rest d)
play_on (Err halt) rest = Err (record { at = 0; why = halt.why; chip = halt.chip })

-- the run of a player that polls at most so many times at each poll; it keeps the chip also where a poll never ends
unfoldable pub played : Setting → ℕ → Chip → List Step → Result Chip Stop
played s limit c [] = Ok c
played s limit c (x ∷ xs) = play_on (step_for s limit c x) (λ d. played s limit d xs)

-- nothing wrong, and at the end the chip is settled
pub record IsGoodRun (s : Setting) (from : Chip) (steps : List Step) (to : Chip) : Type 0 where
  pub runs : run s from steps ≡ Ok to
  pub settled : is_settled s to ≡ true

-- on a ready chip with the first content a good run leaves the second
pub record DoesTask (s : Setting) (content target : List ℕ) (steps : List Step) : Type 0 where
  pub final : Chip
  pub good : IsGoodRun s (ready s content) steps final
  pub array : final.array ≡ target

-- so they do on every chip of a meaning and start
abbrev pub DoesTaskOnEvery : Parameters → Start → List ℕ → List ℕ → List Step → Type 0
DoesTaskOnEvery m start content target steps = (s : Setting) → IsChipOf m start s → DoesTask s content target steps

abbrev pub trail_on : Result (Chip × List ℕ) Wrong → (Chip × List ℕ → List Chip) → List Chip
trail_on (Err why) more = []
trail_on (Ok after) more = after.0 ∷ more after

-- the chip after each transaction of a poll
unfoldable pub polled_trail : Setting → ℕ → Chip → List Chip
polled_trail s zero c = []
polled_trail s (suc turns) c =
    trail_on (effect s c poll_clocks) (λ after. if says_busy after.1 then polled_trail s turns after.0 else [])

unfoldable pub step_trail : Setting → Chip → Step → List Chip
step_trail s c (Send clocks) = trail_on (effect s c clocks) (λ after. [])
step_trail s c (Poll clocks) = if bytes_eq clocks poll_clocks then polled_trail s (suc c.left) c else []
step_trail s c (Verify clocks expect) = if is_verify clocks then trail_on (effect s c clocks) (λ after. []) else []

abbrev pub trail_after : Result Chip Wrong → (Chip → List Chip) → List Chip
trail_after (Err why) more = []
trail_after (Ok c) more = more c

-- the chip after each transaction of the steps, as far as a run goes; the chip that it begins with is not among them
unfoldable pub trail : Setting → Chip → List Step → List Chip
trail s c [] = []
trail s c (x ∷ xs) = step_trail s c x ++ trail_after (step s c x) (λ d. trail s d xs)
