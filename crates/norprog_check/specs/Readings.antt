-- What the reading of a script for its steps does (this project's).
use Rattle.std.specs.Prelude.{◌≡◌, ◌≢◌, ◌↔◌, ℕ, ◌+◌, ◌^◌, ◌≤◌, ◌==◌, List, length, Option, Some, None, unwrap_or}
use Rattle.nor_base.specs.declared.step.Step.{Step}
use Rattle.nor_base.specs.Run.{DoesTaskOnEvery}
use Rattle.nor_base.specs.Script.{IsScript}
use Rattle.nor_check.specs.declared.verdict.Verdict.{Verdict}
use Rattle.nor_check.specs.declared.verdict.Verdict.TheVariants.{Yes, No}
use Rattle.nor_check.specs.declared.verdict.Why.{Why}
use Rattle.nor_check.specs.Fed.{Fed, IsShown, to_come}
use Rattle.nor_check.specs.Outcome.{trial}
use Rattle.nor_check.specs.Worst.{IsWorst}
use Rattle.nor_job.specs.declared.job.Job.{Job}
use Rattle.norprog_check.specs.declared.finding.Finding.{Finding}
use Rattle.norprog_check.specs.declared.finding.ShowingChip.{ShowingChip}
use Rattle.norprog_check.specs.declared.readings.Said.{Said}
use Rattle.norprog_check.specs.Checked.{IsShownOn}

-- what a checker says that is fed with steps, and then given a target: how many they are, the verdict and, of a no, which page and
-- how many status reads before the step show it
pub record SaysOf (fed : Fed) (want : List ℕ) (steps : List Step) (said : Said) : Type 0 where
  pub number : said.steps ≡ length steps
  pub told : said.verdict ≡ to_come fed want steps
  pub shown : (step : ℕ) (why : Why) → said.verdict ≡ No step why → IsShown fed want steps (No step why) said.witness

-- with the steps of a text
pub record IsSaidOf (fed : Fed) (want : List ℕ) (said : Said) (text : List ℕ) : Type 0 where
  pub steps : List Step
  pub script : IsScript text steps
  pub says : SaysOf fed want steps said

-- the chip of what was said of a no at this step: busy for one status read more, with the page that was said
pub record IsChipOf (said : Said) (step own : ℕ) (chip : ShowingChip) : Type 0 where
  pub busy : chip.each_busy ≡ said.witness.reads + 1
  pub keep : chip.keep ≡ (step == said.steps)
  pub other : chip.page ≢ Some own
  pub page : unwrap_or chip.page own ≡ said.witness.page

-- none of a yes, or where the number has more than 32 bits
abbrev pub TakesBy : Verdict → Said → ℕ → Option ShowingChip → Type 0
TakesBy Yes said own chip = chip ≡ None
TakesBy (No step why) said own None = 2 ^ 32 ≤ said.witness.reads + 1
TakesBy (No step why) said own (Some chip) = IsChipOf said step own chip

abbrev pub TakesChip : Said → ℕ → Option ShowingChip → Type 0
TakesChip said own chip = TakesBy said.verdict said own chip

-- what is found of the steps of a text on the chips of a job that hold `have`, and are to hold `want`
pub record IsJudged (job : Job) (have want : List ℕ) (found : Finding) (text : List ℕ) : Type 0 where
  pub steps : List Step
  pub script : IsScript text steps
  pub worst : IsWorst (trial job.meaning job.start have want steps) found.verdict
  pub yes : (found.verdict ≡ Yes) ↔ DoesTaskOnEvery job.meaning job.start have want steps
  pub shown : IsShownOn (trial job.meaning job.start have want steps) found.verdict found.chip
