-- Which bytes of a chip steps touch (W25Q256JV datasheet: Sector and Block Erase, Page Program 02h with its wrap, Enter 4-Byte
-- Address Mode B7h, Exit 4-Byte Address Mode E9h).
use Rattle.std.specs.Prelude.{◌≡◌, ◌⊎◌, ℕ, ◌+◌, ◌/◌, ◌<◌, ◌≤◌, Bool, List, [], ◌∷◌, length, Option, Some, None}
use Rattle.nor_base.specs.declared.instruction.What.{What}
use Rattle.nor_base.specs.declared.instruction.What.TheVariants as what
use Rattle.nor_base.specs.declared.meaning.Start.{Start}
use Rattle.nor_base.specs.declared.step.Step.{Step}
use Rattle.nor_base.specs.Chip.{begins4}
use Rattle.nor_base.specs.Decoding.{Instruction, decode}
use Rattle.nor_base.specs.Effect.{place}
use Rattle.nor_base.specs.Parameters.{Parameters, block_size}
use Rattle.nor_base.specs.Spelling.{mode_by}
use Rattle.nor_base.specs.Step.{step_clocks}
use Rattle.nor_cells.specs.Marks.{AreMarks}

-- some byte of a program goes there: on from its address, and round within its page
abbrev pub Programs : Parameters → Instruction → ℕ → Type 0
Programs m i a = (j : ℕ) × (j < length i.sent) × (a ≡ place m.page i.address j)

-- from one address to before another
abbrev pub LiesBetween : ℕ → ℕ → ℕ → Type 0
LiesBetween start end a = (start ≤ a) × (a < end)

-- an instruction erases or programs the byte at an address: of an erase those of its block
abbrev pub Changes : Parameters → Instruction → What → ℕ → Type 0
Changes m i (what.Erase kind) a = LiesBetween i.address (i.address + block_size m kind) a
Changes m i what.Program a = Programs m i a
Changes m i what.QuadProgram a = Programs m i a
Changes m i other a = ⊥

-- so does what a chip sees in some clocks
abbrev pub ChangesSeen : Parameters → Option Instruction → ℕ → Type 0
ChangesSeen m None a = ⊥
ChangesSeen m (Some i) a = Changes m i i.what a

-- a step touches an address, on a chip in an address mode
abbrev pub Touches : Parameters → Bool → Step → ℕ → Type 0
Touches m mode4 x a = ChangesSeen m (decode m mode4 (step_clocks x)) a

-- the address mode after a step, and after steps
abbrev pub mode_past : Parameters → Bool → Step → Bool
mode_past m mode4 x = mode_by mode4 (decode m mode4 (step_clocks x))

abbrev pub mode_past_all : Parameters → Bool → List Step → Bool
mode_past_all m mode4 [] = mode4
mode_past_all m mode4 (x ∷ xs) = mode_past_all m (mode_past m mode4 x) xs

-- some of the steps touches an address: the first, or one of the others in the mode after the first
abbrev pub IsTouched : Parameters → Bool → List Step → ℕ → Type 0
IsTouched m mode4 [] a = ⊥
IsTouched m mode4 (x ∷ xs) a = Touches m mode4 x a ⊎ IsTouched m (mode_past m mode4 x) xs a

-- the chips, the address mode after the steps so far, and the marks of the cells
pub record SoFar : Type 0 where
  pub meaning : Parameters
  pub mode4 : Bool
  pub marks : List Bool

-- on chips of a meaning and a start just the cells are marked that hold an address which these steps touch, and the address mode is
-- the one after them
pub record HasTouched (m : Parameters) (start : Start) (steps : List Step) (cells : SoFar) : Type 0 where
  pub meaning : cells.meaning ≡ m
  pub mode : cells.mode4 ≡ mode_past_all m (begins4 m start) steps
  pub marks : AreMarks (IsTouched m (begins4 m start) steps) (m.size / 256) cells.marks
