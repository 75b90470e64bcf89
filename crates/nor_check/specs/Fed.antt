-- A checker that is fed with steps, one after another (this project's).
use Rattle.std.specs.Prelude.{◌≡◌, ℕ, ◌+◌, List, Option, Some, None, MatchOption, Result, Ok, Err}
use Rattle.nor_base.specs.declared.step.Step.{Step}
use Rattle.nor_base.specs.declared.wrong.Wrong.{Wrong}
use Rattle.nor_check.specs.declared.verdict.Why.TheVariants as why
use Rattle.nor_check.specs.declared.verdict.Verdict.{Verdict}
use Rattle.nor_check.specs.declared.verdict.Verdict.TheVariants.{Yes, No}
use Rattle.nor_check.specs.declared.verdict.Witness.{Witness}
use Rattle.nor_check.specs.Chips.{Together}
use Rattle.nor_check.specs.Judged.{judged}
use Rattle.nor_check.specs.Pages.{IsJudgedBy, judged_each}
use Rattle.nor_check.specs.Witness.{in_a_row, reads_from}

-- a checker after some steps: how many bytes a chip has, how many steps there were, the chips of each page, the verdict where one
-- is reached, and then the page of chips that show it; how many status reads were sent right before
pub record Fed : Type 0 where
  pub size : ℕ
  pub number : ℕ
  pub chips : List Together
  pub stopped : Option Verdict
  pub page : ℕ
  pub reads : ℕ

-- a verdict counted from so many steps earlier
abbrev pub after_steps : ℕ → Verdict → Verdict
after_steps n Yes = Yes
after_steps n (No k cause) = No (k + n) cause

abbrev pub reached : Option Verdict → Verdict → Verdict
reached None verdict = verdict
reached (Some verdict) other = verdict

-- the verdict that the answer to the step of a number brings, if one
abbrev pub verdict_at : ℕ → Result (Unit {0}) Wrong → Option Verdict
verdict_at n (Ok u) = None
verdict_at n (Err cause) = Some (No n (why.Wrong cause))

-- how many status reads were sent in a row after a step that was answered so: one that goes wrong isn't counted
abbrev pub reads_after : ℕ → Step → Result (Unit {0}) Wrong → ℕ
reads_after reads x (Ok u) = in_a_row reads x
reads_after reads x (Err cause) = reads

-- the verdict if these steps come, and then the end, where the chips are to hold this target
unfoldable pub to_come : Fed → List ℕ → List Step → Verdict
to_come f target more = reached f.stopped (after_steps f.number (judged_each target f.chips more))

-- no verdict is reached yet, and some of these steps goes wrong so, or their end
abbrev pub IsShownLater : Fed → List ℕ → List Step → Verdict → Witness → Type 0
IsShownLater f target more Yes w = ⊥
IsShownLater f target more (No step cause) w =
    (at : ℕ) × (step ≡ at + f.number) × IsJudgedBy (λ t. judged t.kind target t.chips more) f.chips (No at cause) w.page × (reads_from f.reads at more ≡ w.reads)

-- if these steps come, and then the end, where the chips are to hold this target, those of the witness's page go wrong as this
-- verdict says, right after so many status reads
unfoldable pub IsShown : Fed → List ℕ → List Step → Verdict → Witness → Type 0
IsShown f target more v w = MatchOption f.stopped (IsShownLater f target more v w) (λ verdict. (verdict ≡ v) × (f.page ≡ w.page) × (f.reads ≡ w.reads))
