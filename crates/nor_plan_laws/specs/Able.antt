-- What an operation needs of the chip and of its array, and what its instructions then do.
use Rattle.std.specs.Prelude.{◌≡◌, ℕ, Bool, true, false, ◌+◌, ◌-◌, ◌%◌, ◌^◌, ◌<◌, ◌≤◌, List, length, Some, Ok, slice_index, slice_range}
use Rattle.nor_base.specs.declared.meaning.Start.{Start}
use Rattle.nor_base.specs.declared.meaning.Strategy.{Strategy}
use Rattle.nor_base.specs.declared.step.Step.{Step}
use Rattle.nor_base.specs.Parameters.{Parameters, block_size}
use Rattle.nor_base.specs.Accepted.{IsAccepted}
use Rattle.nor_base.specs.Blocks.{Block, IsLegalBlock, is_legal, block_at, smallest}
use Rattle.nor_base.specs.Chip.{Setting, resting}
use Rattle.nor_base.specs.Effect.{may_program}
use Rattle.nor_base.specs.Run.{run}
use Rattle.nor_base.specs.Strategies.{strategy, reaches}
use Rattle.nor_base.specs.Need.{is_beyond}
use Rattle.nor_base.specs.Programs.{Program, program_end}
use Rattle.nor_base.specs.Spelling.{AreStepsOf}
use Rattle.nor_base.specs.Operations.{Op, erases, writes, reads, does, instructions}

-- a program goes over no border of a page
pub record IsInPage (page : ℕ) (p : Program) : Type 0 where
  pub page_start : ℕ
  pub whole : page_start % page ≡ 0
  pub from : page_start ≤ p.at
  pub upto : program_end p ≤ page_start + page

-- the byte of a program for an address
abbrev pub byte_for : Program → ℕ → ℕ
byte_for p x = slice_index p.bytes (x - p.at)

-- each byte of the program may be programmed over what the array has there
abbrev pub MayLay : Parameters → Program → List ℕ → Type 0
MayLay m p a = (x : ℕ) → p.at ≤ x → x < program_end p → may_program m (slice_index a x) (byte_for p x) ≡ true

-- what an operation needs of the chip and its array
pub record CanErase (m : Parameters) (b : Block) : Type 0 where
  pub legal : is_legal m b.kind b.start ≡ true
  pub size : b.size ≡ block_size m b.kind
  pub inside : b.start < m.size

pub record CanWrite (m : Parameters) (page : ℕ) (p : Program) (a : List ℕ) : Type 0 where
  pub some : 0 < length p.bytes
  pub inside : program_end p ≤ m.size
  pub in_page : IsInPage page p
  pub may : MayLay m p a

pub record CanRead (m : Parameters) (p : Program) (a : List ℕ) : Type 0 where
  pub some : 0 < length p.bytes
  pub inside : program_end p ≤ m.size
  pub there : slice_range a p.at (program_end p) ≡ p.bytes

abbrev pub CanDo : Parameters → ℕ → Op → List ℕ → Type 0
CanDo m page (erases b) a = CanErase m b
CanDo m page (writes p) a = CanWrite m page p a
CanDo m page (reads p) a = CanRead m p a

-- on a chip at rest the instructions of an operation do what it does to the array, and leave the chip at rest
abbrev pub OperationIsDone : Type 0
OperationIsDone = (s : Setting) (by : Strategy) (mode4 : Bool) (op : Op) (a to_come : List ℕ) (steps : List Step) → CanDo s.meaning s.page op a
    → AreStepsOf s.meaning mode4 (instructions s.meaning s.start by op) steps
    → (after : List ℕ) × (run s (resting mode4 a to_come) steps ≡ Ok (resting mode4 (does op a) after))

-- the strategy's smallest block is the smallest legal one, but for its kind
pub record IsReachedAs (m : Parameters) (by : Strategy) (a : ℕ) (b : Block) : Type 0 where
  pub kind : ℕ
  pub block : Block
  pub there : block_at m a kind ≡ Some block
  pub reached : reaches by m block.kind block.start ≡ true
  pub start : block.start ≡ b.start
  pub size : block.size ≡ b.size

abbrev pub SmallestAgree : Type 0
SmallestAgree = (m : Parameters) (start : Start) (a : ℕ) (b : Block) → IsAccepted m → a < m.size → is_beyond (strategy m start) a ≡ false
    → smallest m a ≡ Some b → IsReachedAs m (strategy m start) a b

-- no legal block and no page lies across 2^24
abbrev pub BlocksStay : Type 0
BlocksStay = (m : Parameters) (b : Block) → IsAccepted m → IsLegalBlock m b → b.start < 2 ^ 24 → b.start + b.size ≤ 2 ^ 24

abbrev pub PagesStay : Type 0
PagesStay = (m : Parameters) (start : ℕ) → IsAccepted m → start % m.page ≡ 0 → start < 2 ^ 24 → start + m.page ≤ 2 ^ 24
