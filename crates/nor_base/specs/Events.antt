-- What was seen in a run: each transaction with its step, the instruction that it was, and the chip after it (this project's).
use Rattle.std.specs.Prelude.{◌≡◌, ℕ, zero, suc, Bool, true, false, ◌+◌, ◌<◌, nat_le, nat_lt, ◌&&◌, ◌||◌, if◌then◌else◌, List, [], ◌∷◌, ◌++◌, Option, Some, Result, Ok, Err, slice_get, slice_range, count_by}
use Rattle.std.specs.List.{list_any}
use Rattle.std.specs.Option.{option_map_or}
use Rattle.std.specs.Str.{bytes_eq}
use Rattle.nor_base.specs.declared.instruction.What.{What}
use Rattle.nor_base.specs.declared.instruction.What.TheVariants as what
use Rattle.nor_base.specs.declared.step.Step.{Step}
use Rattle.nor_base.specs.declared.step.Step.TheVariants.{Send, Poll, Verify}
use Rattle.nor_base.specs.declared.wrong.Wrong.{Wrong}
use Rattle.nor_base.specs.Parameters.{Parameters, block_size}
use Rattle.nor_base.specs.Decoding.{Instruction, decode}
use Rattle.nor_base.specs.Chip.{Setting, Chip, ready}
use Rattle.nor_base.specs.Effect.{effect, is_program, is_read, written}
use Rattle.nor_base.specs.Run.{poll_clocks, says_busy, is_verify, step}

pub record Event : Type 0 where
  -- the number of its step, from 0 on
  pub step : ℕ
  pub seen : Option Instruction
  -- the chip after it
  pub chip : Chip

abbrev pub event_on : Setting → ℕ → Chip → List ℕ → Result (Chip × List ℕ) Wrong → (Chip × List ℕ → List Event) → List Event
event_on s n c clocks (Err why) more = []
event_on s n c clocks (Ok after) more = record { step = n; seen = decode s.meaning c.mode4 clocks; chip = after.0 } ∷ more after

unfoldable pub polled_events : Setting → ℕ → ℕ → Chip → List Event
polled_events s n zero c = []
polled_events s n (suc turns) c =
    event_on s n c poll_clocks (effect s c poll_clocks) (λ after. if says_busy after.1 then polled_events s n turns after.0 else [])

unfoldable pub step_events : Setting → ℕ → Chip → Step → List Event
step_events s n c (Send clocks) = event_on s n c clocks (effect s c clocks) (λ after. [])
step_events s n c (Poll clocks) = if bytes_eq clocks poll_clocks then polled_events s n (suc c.left) c else []
step_events s n c (Verify clocks expect) = if is_verify clocks then event_on s n c clocks (effect s c clocks) (λ after. []) else []

abbrev pub events_after : Result Chip Wrong → (Chip → List Event) → List Event
events_after (Err why) more = []
events_after (Ok c) more = more c

-- the transactions of a run, from the step of a number on
unfoldable pub events_from : Setting → ℕ → Chip → List Step → List Event
events_from s n c [] = []
events_from s n c (x ∷ xs) = step_events s n c x ++ events_after (step s c x) (λ d. events_from s (n + 1) d xs)

-- the transactions of a run
abbrev pub events : Setting → Chip → List Step → List Event
events s c steps = events_from s 0 c steps

-- an instruction erases an address
abbrev pub erases_address : Parameters → ℕ → Instruction → What → Bool
erases_address m a i (what.Erase kind) = nat_le i.address a && nat_lt a (i.address + block_size m kind)
erases_address m a i other = false

-- it programs the address, in pages of a size
abbrev pub programs_address : ℕ → ℕ → Instruction → What → Bool
programs_address page a i what.Program = option_map_or (λ byte. true) (written page i.address i.sent a) false
programs_address page a i what.QuadProgram = option_map_or (λ byte. true) (written page i.address i.sent a) false
programs_address page a i other = false

-- it reads the address
abbrev pub reads_address : ℕ → Instruction → Bool
reads_address a i = is_read i.what && (nat_le i.address a && nat_lt a (i.address + i.asked))

-- an address that a run erased
abbrev pub is_erased_by : Setting → List Event → ℕ → Bool
is_erased_by s seen a = list_any (λ e. option_map_or (λ i. erases_address s.meaning a i i.what) e.seen false) seen

-- how many transactions erase an address
abbrev pub times_erased : Setting → List Event → ℕ → ℕ
times_erased s seen a = count_by (λ e. option_map_or (λ i. erases_address s.meaning a i i.what) e.seen false) seen

abbrev pub is_erase : What → Bool
is_erase (what.Erase kind) = true
is_erase other = false

-- how many transactions are erases, and how many programs, on one lane or on four
abbrev pub erases_seen : List Event → ℕ
erases_seen seen = count_by (λ e. option_map_or (λ i. is_erase i.what) e.seen false) seen

abbrev pub programs_seen : List Event → ℕ
programs_seen seen = count_by (λ e. option_map_or (λ i. is_program i.what) e.seen false) seen

-- the event erases or programs the address
abbrev pub changes_address : Setting → ℕ → Event → Bool
changes_address s a e =
    option_map_or (λ i. erases_address s.meaning a i i.what) e.seen false
    || option_map_or (λ i. programs_address s.page a i i.what) e.seen false

-- the event is that of a verifying read of the address, which expects the target's bytes
pub record VerifiesAddress (want : List ℕ) (steps : List Step) (a : ℕ) (e : Event) : Type 0 where
  pub seen : Instruction
  pub clocks : List ℕ
  pub is_seen : e.seen ≡ Some seen
  pub there : slice_get steps e.step ≡ Some (Verify clocks (slice_range want seen.address (seen.address + seen.asked)))
  pub reads : reads_address a seen ≡ true

-- what an event erases or programs a later one reads, against the target
pub record IsReadLater (want : List ℕ) (steps : List Step) (seen : List Event) (at a : ℕ) : Type 0 where
  pub later : ℕ
  pub event : Event
  pub after : at < later
  pub there : slice_get seen later ≡ Some event
  pub verifies : VerifiesAddress want steps a event

-- each address that is erased or programmed is read later, against the target
abbrev pub AreVerified : Setting → List ℕ → List Step → List Event → Type 0
AreVerified s want steps seen =
    (at a : ℕ) (e : Event) → slice_get seen at ≡ Some e → changes_address s a e ≡ true → IsReadLater want steps seen at a

-- each address that a run erases or programs is read later in it, against the target
abbrev pub IsVerified : Setting → List ℕ → List ℕ → List Step → Type 0
IsVerified s content want steps = AreVerified s want steps (events s (ready s content) steps)
