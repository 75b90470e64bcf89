-- What a run says on the chip that a check found with a no (this project's).
use Rattle.std.specs.Prelude.{◌≡◌, ◌≢◌, ℕ, ◌<◌, ◌≤◌, List, length, Option, Some, slice_index}
use Rattle.nor_base.specs.Chip.{Chip}
use Rattle.nor_base.specs.Device.{Ahead}
use Rattle.nor_check.specs.declared.verdict.Verdict.TheVariants.{No}
use Rattle.nor_check.specs.declared.verdict.Why.{Why}
use Rattle.nor_check.specs.declared.verdict.Why.TheVariants as why
use Rattle.nor_chip.specs.Busy.{most_times}
use Rattle.nor_chip.specs.declared.busy.BusyTimes.TheVariants.{Each}
use Rattle.nor_job.specs.Status.{start_of}
use Rattle.nor_job.specs.Task.{Task}
use Rattle.nor_job.specs.Wanted.{wanted}
use Rattle.norprog_check.specs.declared.finding.Finding.{Finding}
use Rattle.norprog_check.specs.declared.finding.ShowingChip.{ShowingChip}
use Rattle.norprog_check.specs.Checked.{IsChecked, checking}
use Rattle.norprog_laws.specs.Checked.{Tells}
use Rattle.norprog_run.specs.declared.request.ChipBehaviour.{ChipBehaviour}
use Rattle.norprog_run.specs.declared.verdict.Verdict.{Verdict}
use Rattle.norprog_run.specs.declared.verdict.Verdict.TheVariants.{Done, Wrong}
use Rattle.nor_job.specs.Written.{passed}
use Rattle.norprog_run.specs.Play.{play_of, WasPlayed}

-- a run says just what a no says: it goes wrong at that step for that cause; or it ends well, and the chip has another byte there
abbrev pub SaysSo : Why → ℕ → List ℕ → Chip → Verdict → Type 0
SaysSo (why.Wrong cause) step want chip (Wrong at because) = (at ≡ step) × (because ≡ cause)
SaysSo (why.Wrong cause) step want chip (Done transactions) = ⊥
SaysSo (why.Differs a) step want chip (Done transactions) = (a < length want) × (slice_index chip.array a ≢ slice_index want a)
SaysSo (why.Differs a) step want chip (Wrong at because) = ⊥

-- the options of the chip that was found, with a limit that lets its polls end
pub record IsBenchOf (chip : ShowingChip) (bench : ChipBehaviour) : Type 0 where
  pub busy : bench.busy ≡ Each chip.each_busy
  pub keep : bench.keep ≡ chip.keep
  pub page : bench.page ≡ chip.page
  pub limit : chip.each_busy < bench.limit

-- of a text that was checked with a no, and on such a chip of the same meaning, start and content run, the run says so; `most_times` is
-- more steps than any memory holds
abbrev pub NoIsRun : Type 0
NoIsRun = (t u : Task) (len : ℕ) (text : List ℕ) (before after rest : Ahead) (found : Finding) (step : ℕ) (cause : Why) (chip : ShowingChip)
    (bench : ChipBehaviour) (held held' : Option (List ℕ)) (verdict : Verdict)
    → (checked : IsChecked (checking t len before after) text found) → found.verdict ≡ No step cause → found.chip ≡ Some chip → IsBenchOf chip bench
    → (ran : WasPlayed (play_of u bench len (passed before rest held held')) text verdict) → Tells before → ran.m ≡ checked.m → start_of u ≡ start_of t
    → length ran.steps ≤ most_times → SaysSo cause step (wanted t checked.image checked.regions checked.content) ran.chip verdict
