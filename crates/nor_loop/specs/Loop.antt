-- What is promised of every chip that explains a log (this project's).
use Rattle.std.specs.Prelude.{◌≡◌, ◌⊎◌, ◌<◌, ◌+◌, ℕ, Bool, true, List, [], ◌∷◌, length, slice_index, Ok}
use Rattle.std.specs.List.{slice_range}
use Rattle.nor_base.specs.declared.meaning.Start.{Start}
use Rattle.nor_base.specs.declared.step.Step.{Step}
use Rattle.nor_base.specs.Parameters.{Parameters}
use Rattle.nor_base.specs.Chip.{Setting, Chip, IsChipOf, is_settled, ready}
use Rattle.nor_base.specs.Effect.{effect}
use Rattle.nor_base.specs.Planned.{planned_units, ArePlanned, IsInTheMaking, IsWorkable}
use Rattle.nor_loop.specs.Log.{Operation, Explains}
use Rattle.nor_loop.specs.Reads.{Chunk}

-- a content of a chip: bytes, as many as the chip has
pub record IsContent (m : Parameters) (held : List ℕ) : Type 0 where
  pub size : length held ≡ m.size
  pub bytes : (a : ℕ) → slice_index held a < 256

-- a chip that may have been there: of the meaning and the start, ready with some content, it explains the log and is this chip then
pub record MayBe (m : Parameters) (start : Start) (log : List Operation) (s : Setting) (held : List ℕ) (after : Chip) : Type 0 where
  pub is : IsChipOf m start s
  pub content : IsContent m held
  pub explains : Explains s (ready s held) log after

-- a chip ends settled, with the goal of what it held at first
pub record EndsAs (goal : List ℕ → List ℕ) (s : Setting) (held : List ℕ) (after : Chip) : Type 0 where
  pub array : after.array ≡ goal held
  pub settled : is_settled s after ≡ true

-- every chip that may have been there does
abbrev pub EveryChipEnds : Parameters → Start → (List ℕ → List ℕ) → List Operation → Type 0
EveryChipEnds m start goal log = (s : Setting) (held : List ℕ) (after : Chip) → MayBe m start log s held after → EndsAs goal s held after

-- of these transactions, one after the other, the chip did some or none, whatever it gave; the others passed it over
abbrev pub DoesSome : Setting → Chip → List (List ℕ) → Chip → Type 0
DoesSome s c [] d = d ≡ c
DoesSome s c (clocks ∷ more) d =
    DoesSome s c more d ⊎ ((e : Chip) × (given : List ℕ) × (effect s c clocks ≡ Ok (e, given)) × DoesSome s e more d)

-- a content has the bytes of a chunk
abbrev pub Has : Chunk → List ℕ → Type 0
Has c held = slice_range held c.at (c.at + length c.bytes) ≡ c.bytes

-- work on a chip: its meaning, how it begins, whether what is written is read back, what the chip must hold of what it holds, and the steps
pub record Work : Type 0 where
  pub m : Parameters
  pub start : Start
  pub verify : Bool
  pub goal : List ℕ → List ℕ
  pub steps : List Step

abbrev pub work : Parameters → Start → Bool → (List ℕ → List ℕ) → List Step → Work
work m start verify goal steps = record { m = m; start = start; verify = verify; goal = goal; steps = steps }

-- its steps are the planned work from a content to its goal
pub record IsDoneBy (w : Work) (held : List ℕ) : Type 0 where
  pub workable : IsWorkable w.m w.start held (w.goal held)
  pub planned : ArePlanned w.m w.start w.verify held (w.goal held) w.steps

-- so it is for each content that has a chunk
abbrev pub IsDoneForAll : Work → Chunk → Type 0
IsDoneForAll w c = (held : List ℕ) → IsContent w.m held → Has c held → IsDoneBy w held

-- a chip held a chunk, and of the work from what it held to the goal of that at most one unit is in the making, also after it did some of the
-- transactions of these clocks
pub record HoldsPart (w : Work) (c : Chunk) (next : List (List ℕ)) (s : Setting) (held : List ℕ) (after : Chip) : Type 0 where
  pub held_it : Has c held
  pub part : (d : Chip) → DoesSome s after next d → IsInTheMaking (planned_units w.m w.start held (w.goal held)) held (w.goal held) d.array

-- every chip that may have been there does
abbrev pub EveryChipHoldsPart : Work → Chunk → List Operation → List (List ℕ) → Type 0
EveryChipHoldsPart w c log next =
    (s : Setting) (held : List ℕ) (after : Chip) → MayBe w.m w.start log s held after → HoldsPart w c next s held after
