-- What a part of the work has done: content was read, and a text of its windows was written (this project's).
use Rattle.std.specs.Prelude.{◌≡◌, ◌≢◌, ◌⊎◌, ℕ, false, ◌+◌, ◌%◌, ◌<◌, ◌≤◌, min, List, [], ◌++◌, length, take, count_by, Option}
use Rattle.std.specs.Io.KnownBytes.{Appends}
use Rattle.nor_base.specs.Device.{Ahead, Gives, IsAtEnd}
use Rattle.nor_base.specs.Need.{is_at_fault}
use Rattle.nor_base.specs.Planned.{planned, planned_ops}
use Rattle.nor_base.specs.Script.{script_text}
use Rattle.nor_base.specs.Strategies.{strategy}
use Rattle.nor_base.specs.Target.{is_ignored}
use Rattle.nor_geometry.specs.Plan.{HasPart}
use Rattle.nor_geometry.specs.Window.{IsWindowSize}
use Rattle.nor_job.specs.declared.fault.BuildFault.{BuildFault}
use Rattle.nor_job.specs.declared.fault.BuildFault.TheVariants as fault
use Rattle.nor_job.specs.declared.job.Job.{Job}
use Rattle.nor_layout.specs.Chosen.{has}
use Rattle.nor_outline.specs.Told.{unit_outline}
use Rattle.nor_steps.specs.Stretch.{Stretch, stretch, extent}
use Rattle.nor_steps.specs.declared.fault.StepsFault.{StepsFault}
use Rattle.nor_steps.specs.declared.fault.StepsFault.TheVariants as steps
use Rattle.nor_steps.specs.declared.tally.Tally.{Tally}
use Rattle.nor_steps.specs.Lines.{steps_of}
use Rattle.nor_steps.specs.Tally.{tally_with}
use Rattle.nor_steps.specs.Texts.{UnitText, IsText, IsBegunText, WroteText, StopsText}
use Rattle.nor_steps.specs.Work.{IsSound}
use Rattle.nor_steps.specs.Writing.{Writing, Output, output, fresh}
use Rattle.nor_base.specs.Wire.{Wire}
use Rattle.norprog.specs.Update.{Update, update, WorkCause}
use Rattle.norprog.specs.declared.report.Report.{Report}
use Rattle.nor_job.specs.Written.{AreBytes}
use Rattle.nor_job.specs.Filled.{target_from}

-- the work of a job before its first operation
abbrev pub first_writing : Job → Writing
first_writing job = fresh job.meaning job.start (strategy job.meaning job.start) job.verify

abbrev pub lifted_steps : StepsFault → BuildFault
lifted_steps (steps.Plan why) = fault.Plan why
lifted_steps steps.Write = fault.Write
lifted_steps steps.Memory = fault.Memory

-- a window of a job's content: so many bytes from an address on
pub record Window : Type 0 where
  pub job : Job
  pub at : ℕ
  pub count : ℕ

abbrev pub window_of : Job → ℕ → ℕ → Window
window_of job at count = record { job = job; at = at; count = count }

-- how far a job is: its output, and what its reader has ahead
pub record Progress : Type 0 where
  pub out : Output
  pub ahead : Ahead

abbrev pub progress : Writing → Option (List ℕ) → Ahead → Progress
progress work held ahead = record { out = output work held; ahead = ahead }

-- the window was read, and the text of the work on it was written
pub record IsDone (unit_text : UnitText) (w : Window) (before after : Progress) (told : Tally) : Type 0 where
  pub part : List ℕ
  pub size : length part ≡ w.count
  pub given : Gives before.ahead part after.ahead
  pub bytes : AreBytes (target_from w.job w.at part)
  pub wrote : WroteText unit_text before.out after.out (stretch w.at part (target_from w.job w.at part)) told

-- all of the content was
abbrev pub IsAllDone : UnitText → Job → Wire → Progress → Tally → Type 0
IsAllDone unit_text job before after told =
    IsDone unit_text (window_of job 0 job.meaning.size) (progress (first_writing job) before.held before.ahead) after told

-- the window was read, and its text was not all written
pub record IsUndone (unit_text : UnitText) (w : Window) (before : Progress) (after : Wire) (why : StepsFault) : Type 0 where
  pub part : List ℕ
  pub size : length part ≡ w.count
  pub given : Gives before.ahead part after.ahead
  pub bytes : AreBytes (target_from w.job w.at part)
  pub stops : StopsText unit_text before.out after.held (stretch w.at part (target_from w.job w.at part)) why

-- less than a window was read, and nothing was written
pub record IsUnread (w : Window) (before : Progress) (after : Wire) : Type 0 where
  pub part : List ℕ
  pub few : length part < w.count
  pub given : Gives before.ahead part after.ahead
  pub put : Appends before.out.held after.held []

-- a window wasn't read, or it was, and its text was not all written
abbrev pub StopsWindow : UnitText → Window → Progress → Wire → BuildFault → Type 0
StopsWindow unit_text w before after fault.ContentShort = IsUnread w before after × IsAtEnd after.ahead
StopsWindow unit_text w before after fault.Read = IsUnread w before after
StopsWindow unit_text w before after (fault.Plan why) = IsUndone unit_text w before after (steps.Plan why)
StopsWindow unit_text w before after fault.Write = IsUndone unit_text w before after steps.Write
StopsWindow unit_text w before after fault.Memory = IsUndone unit_text w before after steps.Memory
StopsWindow unit_text w before after other = ⊥

-- the update of a job
abbrev pub job_update : Job → List ℕ → Update
job_update job part = update job.meaning job.start job.verify part (target_from job 0 part)

-- by where the work ended, what was read of a chip of a size beside the windows that were planned: a part of the next window,
-- where the reader ended or failed; all of it, where it has an address at fault; nothing, where the writer failed; nothing or
-- all of it, where a growth was refused
abbrev pub AreRecent : ℕ → ℕ → ℕ → ℕ → BuildFault → Type 0
AreRecent size window known read fault.ContentShort = read < min (known + window) size
AreRecent size window known read fault.Read = read < min (known + window) size
AreRecent size window known read (fault.Plan why) = (known < read) × (read ≡ min (known + window) size)
AreRecent size window known read fault.Write = read ≡ known
AreRecent size window known read fault.Memory = (read ≡ known) ⊎ (read ≡ min (known + window) size)
AreRecent size window known read other = ⊥

-- so many bytes of what was read are whole windows of a chip of a size, and were planned
pub record AreWindows (size window known read : ℕ) (why : BuildFault) : Type 0 where
  pub within : known ≤ read
  pub whole : known < size → known % window ≡ 0
  pub recent : AreRecent size window known read why

-- some of the text of a beginning of the content, from the text's beginning on: all of it but where the writer failed or a
-- growth was refused
abbrev pub BeginsText : UnitText → Writing → Stretch → List ℕ → BuildFault → Type 0
BeginsText unit_text w p front fault.Write = IsBegunText unit_text w p front
BeginsText unit_text w p front fault.Memory = IsBegunText unit_text w p front
BeginsText unit_text w p front other = IsText unit_text w p front

-- of what is known some of the text was written, from its beginning on
pub record IsKnown (unit_text : UnitText) (job : Job) (known front : List ℕ) (why : BuildFault) : Type 0 where
  pub bytes : AreBytes (target_from job 0 known)
  pub begun : BeginsText unit_text (first_writing job) (stretch 0 known (target_from job 0 known)) front why

-- some of the content was read, and what was written is such a front of the text of its windows
pub record IsCut (IsFront : List ℕ → List ℕ → BuildFault → Type 0) (job : Job) (before after : Wire) (why : BuildFault) : Type 0 where
  pub part : List ℕ
  pub within : length part ≤ job.meaning.size
  pub given : Gives before.ahead part after.ahead
  pub cause : WorkCause (job_update job part) after.ahead why
  pub window : ℕ
  pub its_size : IsWindowSize job.meaning window
  pub known : ℕ
  pub windows : AreWindows job.meaning.size window known (length part) why
  pub bytes : List ℕ
  pub front : IsFront (take known part) bytes why
  pub put : Appends before.held after.held bytes

-- the whole content was read, no address of the chip is at fault, and how much the steps of the work are is told
pub record IsWorked (job : Job) (before after : Ahead) (told : Tally) : Type 0 where
  pub part : List ℕ
  pub upto : length part ≡ job.meaning.size
  pub given : Gives before part after
  pub bytes : AreBytes (target_from job 0 part)
  pub sound : (x : ℕ) → x < job.meaning.size → is_at_fault job.meaning (strategy job.meaning job.start) part (target_from job 0 part) x ≡ false
  pub its_tally : told ≡ tally_with (length (planned job.meaning job.start job.verify part (target_from job 0 part))) (planned_ops job.meaning job.start job.verify part (target_from job 0 part))

-- and the text of these steps was written
pub record IsScripted (job : Job) (before after : Wire) (told : Tally) : Type 0 where
  pub work : IsWorked job before.ahead after.ahead told
  pub put : Appends before.held after.held (script_text (steps_of (planned job.meaning job.start job.verify work.part (target_from job 0 work.part))))

-- what was written is a front of the text of the steps of the work on a content and a target, with something left
pub record IsTextFront (job : Job) (content target bytes : List ℕ) : Type 0 where
  pub rest : List ℕ
  pub whole : script_text (steps_of (planned job.meaning job.start job.verify content target)) ≡ bytes ++ rest
  pub more : rest ≢ []

-- so it is whatever the chip holds and must hold past what is known; of what is known no address is at fault
pub record IsScriptFront (job : Job) (known bytes : List ℕ) : Type 0 where
  pub small : AreBytes (target_from job 0 known)
  pub front : (content target : List ℕ) → length content ≡ job.meaning.size → HasPart content known 0
      → HasPart target (target_from job 0 known) 0 → IsTextFront job content target bytes
  pub sound : (content target : List ℕ) → HasPart content known 0 → HasPart target (target_from job 0 known) 0
      → IsSound (first_writing job) (extent 0 (length known) content target)

-- some of the content was read, and what was written is a front of the script of its windows
abbrev pub IsCutScript : Job → Wire → Wire → BuildFault → Type 0
IsCutScript job before after why = IsCut (λ known bytes why. IsScriptFront job known bytes) job before after why

-- some of the content was read, and what was written is lines of its windows, as many as why it ended early says
abbrev pub IsCutPlan : Job → Wire → Wire → BuildFault → Type 0
IsCutPlan job before after why = IsCut (IsKnown unit_outline job) job before after why

-- the report of a job of which so much is told
abbrev pub job_report : Job → Tally → Report
job_report job told = record {
  strategy = strategy job.meaning job.start;
  steps = told.steps;
  erases = told.erases;
  erased = told.erased;
  programs = told.programs;
  ignored = count_by (λ pair. is_ignored job.base (has job.chosen) job.meaning.size pair.0) job.image;
}
