-- How a script comes out on one chip (this project's).
use Rattle.std.specs.Prelude.{ℕ, Bool, ◌==◌, not, if◌then◌else◌, List, length, Option, Some, None, Result, Ok, Err, slice_index}
use Rattle.std.specs.List.{find, range_with_len}
use Rattle.nor_base.specs.declared.meaning.Start.{Start}
use Rattle.nor_base.specs.declared.step.Step.{Step}
use Rattle.nor_base.specs.declared.wrong.Wrong.TheVariants as wrong
use Rattle.nor_base.specs.Parameters.{Parameters}
use Rattle.nor_base.specs.Chip.{Setting, Chip, is_settled, ready}
use Rattle.nor_base.specs.Run.{Stop, run}
use Rattle.nor_check.specs.declared.verdict.Verdict.{Verdict}
use Rattle.nor_check.specs.declared.verdict.Verdict.TheVariants.{Yes, No}
use Rattle.nor_check.specs.declared.verdict.Why.TheVariants as why

-- a chip of these parameters, its start and what it holds, what it is to hold, and the steps
pub record Trial : Type 0 where
  pub m : Parameters
  pub start : Start
  pub have : List ℕ
  pub want : List ℕ
  pub steps : List Step

abbrev pub trial : Parameters → Start → List ℕ → List ℕ → List Step → Trial
trial m start have want steps = record { m = m; start = start; have = have; want = want; steps = steps }

-- the array has another byte there than the target
abbrev pub differs : List ℕ → List ℕ → ℕ → Bool
differs array target a = not (slice_index array a == slice_index target a)

-- the lowest address at which it has
unfoldable pub first_difference : List ℕ → List ℕ → Option ℕ
first_difference array target = find (differs array target) (range_with_len 0 (length target))

abbrev pub at_difference : ℕ → Option ℕ → Verdict
at_difference n None = Yes
at_difference n (Some a) = No n (why.Differs a)

-- after n steps, none of them wrong: NotIdleAtEnd where the chip isn't settled, else the lowest address that differs
abbrev pub at_end : Setting → List ℕ → ℕ → Chip → Verdict
at_end s target n c = if is_settled s c then at_difference n (first_difference c.array target) else No n (why.Wrong wrong.NotIdleAtEnd)

abbrev pub ended : Setting → List ℕ → ℕ → Result Chip Stop → Verdict
ended s target n (Ok c) = at_end s target n c
ended s target n (Err stop) = No stop.at (why.Wrong stop.why)

-- the outcome of the steps on a chip at a moment
unfoldable pub outcome_from : Setting → Chip → List ℕ → List Step → Verdict
outcome_from s c target steps = ended s target (length steps) (run s c steps)

-- and on a ready chip with this content: where the run stops, else what is wrong at its end, else Yes
abbrev pub outcome : Setting → List ℕ → List ℕ → List Step → Verdict
outcome s content target steps = outcome_from s (ready s content) target steps
