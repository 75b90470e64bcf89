-- How what a chip holds compares with what it must hold (this project's).
use Rattle.std.specs.Prelude.{◌≡◌, ◌≢◌, ◌<◌, ◌-◌, ℕ, ◌==◌, not, List, length, count_by, slice_index, zip}
use Rattle.norprog_flash.specs.declared.compared.Comparison.{Comparison}
use Rattle.norprog_flash.specs.declared.compared.Comparison.TheVariants.{Same, Differs}
use Rattle.norprog_flash.specs.declared.goal.Goal.{Goal}
use Rattle.norprog_flash.specs.Work.{IsGoal}
use Rattle.nor_job.specs.Task.{Task}

-- the lowest place at which two byte strings differ
pub record IsFirstDifference (one other : List ℕ) (at : ℕ) : Type 0 where
  pub inside : at < length one
  pub differ : slice_index one at ≢ slice_index other at
  pub before : (place : ℕ) → place < at → slice_index one place ≡ slice_index other place

-- at how many places they differ
abbrev pub differing : List ℕ → List ℕ → ℕ
differing one other = count_by (λ pair. not (pair.0 == pair.1)) (zip one other)

-- it holds what it must, of which the image gives so many bytes; or these differ, and that is the first of them
pub data Compares (content : List ℕ) (goal : Goal) : Comparison → Type 0 where
  Alike : content ≡ goal.bytes.items → Compares content goal (Same (goal.given - goal.ignored))
  Unlike : (at : ℕ) → IsFirstDifference content goal.bytes.items at
      → Compares content goal (Differs at (slice_index content at) (slice_index goal.bytes.items at) (differing content goal.bytes.items))

-- the comparison of a content with the target of a task
pub record IsComparison (t : Task) (content : List ℕ) (comparison : Comparison) : Type 0 where
  pub goal : Goal
  pub target : IsGoal t content goal
  pub compares : Compares content goal comparison
