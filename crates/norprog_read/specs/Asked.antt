-- Why a chip doesn't say how it is or what it is (this project's).
use Rattle.std.specs.Prelude.{◌≡◌, ◌≢◌, ◌⊎◌, ◌∷◌, ⊤, ℕ, List, [], Option, Some, None, Result, Ok, Err}
use Rattle.nor_reader.specs.Status.{ReadsStatus}
use Rattle.nor_reader.specs.Id.{Identifies}
use Rattle.nor_serprog.specs.declared.fault.Fault.{Fault}
use Rattle.nor_serprog.specs.declared.fault.Reason.{Reason}
use Rattle.nor_serprog.specs.declared.fault.Reason.TheVariants as reason
use Rattle.nor_base.specs.Wire.{Wire}
use Rattle.norprog_read.specs.declared.asked.Ask.{Ask}
use Rattle.norprog_read.specs.declared.fault.Unlike.TheVariants as unlike
use Rattle.norprog_read.specs.declared.fault.Unread.{Unread}
use Rattle.norprog_read.specs.declared.fault.Unread.TheVariants.{Unlike}

-- the chip was asked for its status until it was idle, so often at most
abbrev pub AsksStatus : Wire → Wire → Ask → Result ℕ Reason → Type 0
AsksStatus before after ask result = ReadsStatus ask.part before after result ask.turns

-- and for its identification
abbrev pub AsksId : Wire → Wire → Result (List ℕ) Fault → Type 0
AsksId before after result = Identifies before after result

-- the status stayed busy, or didn't come
pub data StopsStatus (before after : Wire) (ask : Ask) : Unread → Type 0 where
  Busy : AsksStatus before after ask (Err reason.Busy) → StopsStatus before after ask (Unlike unlike.Busy)
  Lost : (why : Fault) → AsksStatus before after ask (Err (reason.Exchange why)) → StopsStatus before after ask (Unlike (unlike.Asking why))

-- an identification isn't what a line gives that no chip drives: only clear bits, or only set ones
pub record IsDriven (id : List ℕ) : Type 0 where
  pub low : id ≢ 0x00 ∷ 0x00 ∷ 0x00 ∷ []
  pub high : id ≢ 0xFF ∷ 0xFF ∷ 0xFF ∷ []

-- or it is
abbrev pub IsUndriven : List ℕ → Type 0
IsUndriven id = (id ≡ 0x00 ∷ 0x00 ∷ 0x00 ∷ []) ⊎ (id ≡ 0xFF ∷ 0xFF ∷ 0xFF ∷ [])

-- it is the one that is expected, where one is
abbrev pub IsExpected : Option (List ℕ) → List ℕ → Type 0
IsExpected (Some expected) id = id ≡ expected
IsExpected None id = ⊤

-- the identification didn't come, or is that of a line which no chip drives
pub data StopsId (before after : Wire) : Unread → Type 0 where
  Unsaid : (why : Fault) → AsksId before after (Err why) → StopsId before after (Unlike (unlike.Asking why))
  Undriven : (id : List ℕ) → AsksId before after (Ok id) → IsUndriven id → StopsId before after (Unlike (unlike.Id id))
