-- Work on a part of a chip, from one address up to another (this project's).
use Rattle.std.specs.Prelude.{◌≡◌, ◌⊎◌, ◌<◌, ◌≤◌, ◌%◌, ℕ, true, List, slice_index}
use Rattle.nor_base.specs.declared.step.Step.{Step}
use Rattle.nor_base.specs.Parameters.{Parameters, block_size, is_live}
use Rattle.nor_loop.specs.Loop.{IsContent, IsDoneBy, IsDoneForAll}
use Rattle.nor_flasher.specs.Apart.{given, work_on, ChipRead}

-- no page and no block of the chip lies across an address: it is the chip's end, or a multiple of each of their sizes
pub record DividesAll (m : Parameters) (a : ℕ) : Type 0 where
  pub page : a % m.page ≡ 0
  pub block : (kind : ℕ) → is_live m kind ≡ true → a % block_size m kind ≡ 0

abbrev pub IsBorder : Parameters → ℕ → Type 0
IsBorder m a = (a ≡ m.size) ⊎ DividesAll m a

-- a content and another are alike from one address up to another
abbrev pub AreAlike : ℕ → ℕ → List ℕ → List ℕ → Type 0
AreAlike low high one other = (x : ℕ) → low ≤ x → x < high → slice_index one x ≡ slice_index other x

-- a goal is a content too: what the chip holds outside the part that was read, and inside it depends on that part alone
pub record IsWithin (c : ChipRead) (goal : List ℕ → List ℕ) : Type 0 where
  pub content : (held : List ℕ) → IsContent c.m held → IsContent c.m (goal held)
  pub outside : (held : List ℕ) (x : ℕ) → IsContent c.m held → x < c.m.size → (x < c.low) ⊎ (c.high ≤ x) → slice_index (goal held) x ≡ slice_index held x
  pub inside : (one other : List ℕ) → IsContent c.m one → IsContent c.m other → AreAlike c.low c.high one other
      → AreAlike c.low c.high (goal one) (goal other)

-- the steps are the planned work from a content to its goal, which is within the part that was read; no page and no block lies across its
-- borders
pub record IsPlannedWithin (c : ChipRead) (goal : List ℕ → List ℕ) (steps : List Step) : Type 0 where
  pub content : IsContent c.m c.content
  pub low : IsBorder c.m c.low
  pub high : IsBorder c.m c.high
  pub order : c.low ≤ c.high
  pub upto : c.high ≤ c.m.size
  pub within : IsWithin c goal
  pub done : IsDoneBy (work_on c goal steps) c.content

-- then they are the planned work from each content that was given so, whatever the rest of the chip holds
abbrev pub PlannedForAll : Type 0
PlannedForAll = (c : ChipRead) (goal : List ℕ → List ℕ) (steps : List Step) → IsPlannedWithin c goal steps
    → IsDoneForAll (work_on c goal steps) (given c)
