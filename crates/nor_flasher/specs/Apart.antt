-- What a chip holds was read twice on one stretch of a device's wire, all of it or a part, and work was done on a later one (this project's).
-- Between them other bytes may have gone.
use Rattle.std.specs.Prelude.{ℕ, Bool, true, List, ◌++◌, Option}
use Rattle.std.specs.List.{slice_range}
use Rattle.nor_base.specs.declared.meaning.Start.{Start}
use Rattle.nor_base.specs.declared.step.Step.{Step}
use Rattle.nor_base.specs.Chip.{Setting, Chip}
use Rattle.nor_base.specs.Device.{Ahead}
use Rattle.nor_base.specs.Parameters.{Parameters}
use Rattle.nor_base.specs.Wire.{Wire, wire}
use Rattle.nor_loop.specs.Log.{Operation, HasLogged}
use Rattle.nor_loop.specs.Loop.{work, EveryChipEnds, EveryChipHoldsPart, MayBe, Work}
use Rattle.nor_loop.specs.Reads.{chunk, Chunk}
use Rattle.nor_loop.specs.Single.{with_start}
use Rattle.nor_loop.specs.Steps.{AreLogOf, AreBegun, next_clocks}

-- a chip that was read from one address up to another: of which meaning, how it began, and a content that agrees with what it gave there
pub record ChipRead : Type 0 where
  pub m : Parameters
  pub start : Start
  pub content : List ℕ
  pub low : ℕ
  pub high : ℕ

abbrev pub chip_read : Parameters → Start → List ℕ → ℕ → ℕ → ChipRead
chip_read m start content low high = record { m = m; start = start; content = content; low = low; high = high }

-- what it gave
abbrev pub given : ChipRead → Chunk
given c = chunk c.low (slice_range c.content c.low c.high)

-- the work on it by some steps, to the goal of what it holds, each write read back
abbrev pub work_on : ChipRead → (List ℕ → List ℕ) → List Step → Work
work_on c goal steps = work c.m c.start true goal steps

-- what went over each stretch is a log, the later one of the steps. Every ready chip that explains both, one after the other, ends settled,
-- with the goal of what it held, whatever its quad setting; and some chip with the content explains them
pub record ClosesApart (opened closed old new : Wire) (c : ChipRead) (goal : List ℕ → List ℕ) (steps : List Step)
    : Type 0 where
  pub first : List Operation
  pub again : List Operation
  pub work : List Operation
  pub read : HasLogged opened closed (first ++ again)
  pub worked : HasLogged old new work
  pub those : AreLogOf steps work
  pub every : (quad : Bool) → EveryChipEnds c.m (record c.start { quad = quad }) goal (first ++ (again ++ work))
  pub some : (s : Setting) × (after : Chip) × MayBe c.m c.start (first ++ (again ++ work)) s c.content after

-- what went over the first stretch is a log, and so is what was answered on the second one before a step that stopped, which begins a row.
-- Every ready chip that explains both, whatever its quad setting, held what it gave, and of the work from what it held to the goal of that it
-- has at most one unit in the making, also after it did some of the row, of a poll any number of status reads; and some chip with the content
-- explains them
pub record BreaksApart (opened closed old : Wire) (c : ChipRead) (goal : List ℕ → List ℕ) (steps : List Step) (at : ℕ) (row : List Step) : Type 0
  where
    pub first : List Operation
    pub again : List Operation
    pub work : List Operation
    pub held : Option (List ℕ)
    pub ahead : Ahead
    pub read : HasLogged opened closed (first ++ again)
    pub worked : HasLogged old (wire held ahead) work
    pub begun : AreBegun steps at row work
    pub every : (quad : Bool) (reads : ℕ)
        → EveryChipHoldsPart (with_start quad (work_on c goal steps)) (given c) (first ++ (again ++ work)) (next_clocks reads row)
    pub some : (s : Setting) × (after : Chip) × MayBe c.m c.start (first ++ (again ++ work)) s c.content after
