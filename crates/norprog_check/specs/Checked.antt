-- What a check of a script's text promises (this project's).
use Rattle.std.specs.Prelude.{◌≡◌, ◌≢◌, ◌↔◌, ◌+◌, ◌^◌, ◌≤◌, ◌==◌, ℕ, ⊤, List, length, Option, Some, None, unwrap_or, Result, Ok, Err}
use Rattle.nor_base.specs.declared.step.Step.{Step}
use Rattle.nor_base.specs.Device.{Ahead, Gives, raised}
use Rattle.nor_base.specs.Parameters.{Parameters}
use Rattle.nor_base.specs.Run.{DoesTaskOnEvery}
use Rattle.nor_base.specs.Script.{IsScript}
use Rattle.nor_check.specs.declared.verdict.Verdict.{Verdict}
use Rattle.nor_check.specs.declared.verdict.Verdict.TheVariants.{Yes, No}
use Rattle.nor_check.specs.declared.verdict.Why.{Why}
use Rattle.nor_check.specs.Outcome.{Trial, trial}
use Rattle.nor_check.specs.Witness.{Witnesses, reads_before, even}
use Rattle.nor_check.specs.Worst.{IsWorst}
use Rattle.nor_hex.specs.Image.{Pairs}
use Rattle.nor_job.specs.declared.fault.BuildFault.{BuildFault}
use Rattle.nor_job.specs.declared.fault.BuildFault.TheVariants as fault
use Rattle.nor_job.specs.Causes.{AreAccepted, RefusesInputs}
use Rattle.nor_job.specs.Status.{start_of}
use Rattle.nor_job.specs.Task.{Task}
use Rattle.nor_layout.specs.Region.{Region}
use Rattle.nor_script.specs.Faults.{IsFault}
use Rattle.nor_job.specs.Wanted.{wanted}
use Rattle.nor_job.specs.Written.{of_reader}
use Rattle.norprog_check.specs.declared.fault.CheckStop.{CheckStop}
use Rattle.norprog_check.specs.declared.fault.CheckStop.TheVariants as stop
use Rattle.norprog_check.specs.declared.finding.Finding.{Finding}
use Rattle.norprog_check.specs.declared.finding.ShowingChip.{ShowingChip}
use Rattle.norprog_check.specs.Content.{StopsRead}

-- a run of the steps on this chip goes wrong at this step, so: each program and erase keeps it busy for one status read more than are
-- sent in a row right before the step, it keeps a set latch just where the step is the number of steps, and a page is said just where
-- it isn't the meaning's own
pub record ShowsNo (t : Trial) (step : ℕ) (why : Why) (chip : ShowingChip) : Type 0 where
  pub busy : chip.each_busy ≡ reads_before step t.steps + 1
  pub keep : chip.keep ≡ (step == length t.steps)
  pub page : chip.page ≢ Some t.m.page
  pub shows : Witnesses t step why (even chip.each_busy chip.keep (unwrap_or chip.page t.m.page))

-- a no has such a chip where its number of status reads has 32 bits
abbrev pub IsShownOn : Trial → Verdict → Option ShowingChip → Type 0
IsShownOn t Yes chip = chip ≡ None
IsShownOn t (No step why) None = 2 ^ 32 ≤ reads_before step t.steps + 1
IsShownOn t (No step why) (Some chip) = ShowsNo t step why chip

-- a check: its task, the content's length, and what the content's reader had ahead and has
pub record Checking : Type 0 where
  pub task : Task
  pub len : ℕ
  pub content : Ahead
  pub left : Ahead

abbrev pub checking : Task → ℕ → Ahead → Ahead → Checking
checking t len content left = record { task = t; len = len; content = content; left = left }

-- the inputs are accepted, the text is the script of some steps, the reader gave the whole content; of all chips of the
-- inputs with that content none comes out earlier than the verdict says, and it is Yes just where the steps do the job on each; a no
-- is shown on the chip that is found
pub record IsChecked (c : Checking) (text : List ℕ) (found : Finding) : Type 0 where
  pub image : Pairs
  pub regions : List Region
  pub m : Parameters
  pub accepted : AreAccepted c.task c.len image regions m
  pub steps : List Step
  pub script : IsScript text steps
  pub content : List ℕ
  pub whole : length content ≡ c.len
  pub given : Gives c.content content c.left
  pub worst : IsWorst (trial m (start_of c.task) content (wanted c.task image regions content) steps) found.verdict
  pub yes : (found.verdict ≡ Yes) ↔ DoesTaskOnEvery m (start_of c.task) content (wanted c.task image regions content) steps
  pub shown : IsShownOn (trial m (start_of c.task) content (wanted c.task image regions content) steps) found.verdict found.chip

-- some image, regions and meaning are those of the inputs
pub record AreTaken (t : Task) (len : ℕ) : Type 0 where
  pub image : Pairs
  pub regions : List Region
  pub m : Parameters
  pub accepted : AreAccepted t len image regions m

-- why there is no verdict before any content is read: the inputs are refused; or they are accepted, and this is the first
-- fault of the text
abbrev pub RefusesTexts : Task → ℕ → List ℕ → CheckStop → Type 0
RefusesTexts t len text (stop.Build why) = RefusesInputs t len why
RefusesTexts t len text (stop.Script why) = AreTaken t len × IsFault text why

-- the first fault of a text, or memory was refused
abbrev pub IsFaultIn : List ℕ → CheckStop → Type 0
IsFaultIn text (stop.Build why) = why ≡ fault.Memory
IsFaultIn text (stop.Script why) = IsFault text why

-- the inputs are accepted, and the text is the script of some steps; the content wasn't read as a whole, or memory was refused
pub record StopsContent (c : Checking) (text : List ℕ) (why : BuildFault) : Type 0 where
  pub taken : AreTaken c.task c.len
  pub steps : List Step
  pub script : IsScript text steps
  pub stops : StopsRead c.len c.content c.left why

abbrev pub StopsCheck : Checking → List ℕ → CheckStop → Type 0
StopsCheck c text (stop.Build why) = StopsContent c text why
StopsCheck c text (stop.Script why) = ⊥

-- a fault that accepted inputs can meet
abbrev pub IsLateFault : BuildFault → Type 0
IsLateFault fault.ContentShort = ⊤
IsLateFault fault.Read = ⊤
IsLateFault fault.Memory = ⊤
IsLateFault other = ⊥

abbrev pub IsLate : CheckStop → Type 0
IsLate (stop.Build why) = IsLateFault why
IsLate (stop.Script why) = ⊤

-- one that they can meet where the text is that of some steps: none of the text
abbrev pub IsOfContent : CheckStop → Type 0
IsOfContent (stop.Build why) = IsLateFault why
IsOfContent (stop.Script why) = ⊥

abbrev pub failures_of : CheckStop → ℕ
failures_of (stop.Build why) = of_reader why
failures_of (stop.Script why) = 0

-- the reader's count of failures rises by one exactly where Read is answered
abbrev pub CountsReader : {T : Type 0} → ℕ → ℕ → Result T CheckStop → Type 0
CountsReader before after (Ok x) = after ≡ before
CountsReader before after (Err why) = after ≡ raised before (failures_of why)
