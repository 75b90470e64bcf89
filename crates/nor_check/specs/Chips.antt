-- All chips of one meaning, start and page at one moment (this project's): what they have in common, and what is each one's own.
use Rattle.std.specs.Prelude.{◌≡◌, ℕ, Bool, true, false, List, []}
use Rattle.nor_base.specs.declared.instruction.What.{What}
use Rattle.nor_base.specs.declared.instruction.What.TheVariants as what
use Rattle.nor_base.specs.declared.meaning.Start.{Start}
use Rattle.nor_base.specs.Parameters.{Parameters}
use Rattle.nor_base.specs.Chip.{Setting, Chip, begins4}
use Rattle.nor_check.specs.declared.chips.Latches.{Latches}
use Rattle.nor_check.specs.declared.chips.Latches.TheVariants.{Clear, Set, Either}

-- what they are chips of
pub record Kind : Type 0 where
  pub meaning : Parameters
  pub start : Start
  pub page : ℕ

-- one of them, by its busy times and whether it keeps a set latch
abbrev pub one_like : Kind → List ℕ → Bool → Setting
one_like k busy keeps = record { meaning = k.meaning; start = k.start; page = k.page; busy = busy; keeps = keeps }

pub record Chips : Type 0 where
  pub array : List ℕ
  pub mode4 : Bool
  -- any number of status reads may be left; else none is
  pub busy : Bool
  pub latches : Latches

-- the chips, and what they are chips of
pub record Together : Type 0 where
  pub kind : Kind
  pub chips : Chips

-- a latch that is either is set just on the chips that keep it
abbrev pub latch_of : Latches → Bool → Bool
latch_of Clear keeps = false
latch_of Set keeps = true
latch_of Either keeps = keeps

abbrev pub MayBeLeft : Bool → ℕ → Type 0
MayBeLeft true left = Unit {0}
MayBeLeft false left = left ≡ 0

-- one of them at the moment: by whether it keeps a set latch, what is left, and its busy times to come
abbrev pub one_of : Chips → Bool → ℕ → List ℕ → Chip
one_of w keeps left to_come = record { array = w.array; latch = latch_of w.latches keeps; mode4 = w.mode4; left = left; to_come = to_come }

abbrev pub some_left : Bool → ℕ
some_left true = 1
some_left false = 0

-- the one that takes the fewest instructions: it keeps no latch, and is busy where one may be
abbrev pub least_able : Chips → Chip
least_able w = one_of w false (some_left w.busy) []

-- the one that is settled last: it keeps its latch, and is busy where one may be
abbrev pub last_settled : Chips → Chip
last_settled w = one_of w true (some_left w.busy) []

-- after an erase or a program any number may be left
abbrev pub busy_after : Bool → What → Bool
busy_after busy (what.Erase kind) = true
busy_after busy what.Program = true
busy_after busy what.QuadProgram = true
busy_after busy other = busy

-- after a change of the address mode a set latch stays just on the chips that keep it
abbrev pub switched : Latches → Latches
switched Clear = Clear
switched Set = Either
switched Either = Either

abbrev pub latches_after : Latches → What → Latches
latches_after latches what.Enable = Set
latches_after latches what.Disable = Clear
latches_after latches what.Enter = switched latches
latches_after latches what.Leave = switched latches
latches_after latches (what.Erase kind) = Clear
latches_after latches what.Program = Clear
latches_after latches what.QuadProgram = Clear
latches_after latches other = latches

-- all of them after an instruction, by what one of them is then
abbrev pub all_after : Chips → What → Chip → Chips
all_after w is d = record { array = d.array; mode4 = d.mode4; busy = busy_after w.busy is; latches = latches_after w.latches is }

-- all ready chips of a kind with this content
abbrev pub all_ready : Kind → List ℕ → Chips
all_ready k content = record { array = content; mode4 = begins4 k.meaning k.start; busy = false; latches = Clear }

-- that, with the kind
abbrev pub begun : Parameters → Start → ℕ → List ℕ → Together
begun m start page content =
    let k : Kind = record { meaning = m; start = start; page = page } in record { kind = k; chips = all_ready k content }
