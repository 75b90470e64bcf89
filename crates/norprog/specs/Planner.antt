-- The plan of a job, window after window (this project's).
use Rattle.std.specs.Prelude.{◌≡◌, ◌⊎◌, ℕ, ◌%◌, ◌<◌, ◌≤◌, ◌*◌, ◌^◌, Bool, false, List, ◌++◌, length, count_by, Option, Some, None}
use Rattle.std.specs.Io.KnownBytes.{Appends}
use Rattle.nor_base.specs.Accepted.{IsAccepted}
use Rattle.nor_base.specs.Device.{Ahead, Gives}
use Rattle.nor_base.specs.Parameters.{Parameters}
use Rattle.nor_base.specs.Strategies.{strategy}
use Rattle.nor_base.specs.declared.step.Step.{Step}
use Rattle.nor_geometry.specs.Window.{IsWindowSize}
use Rattle.nor_hex.specs.Image.{Pairs}
use Rattle.nor_job.specs.Causes.{AreAccepted}
use Rattle.nor_job.specs.Filled.{target_from}
use Rattle.nor_job.specs.Job.{IsJob}
use Rattle.nor_job.specs.Status.{start_of}
use Rattle.nor_job.specs.Task.{Task}
use Rattle.nor_job.specs.Wanted.{wanted}
use Rattle.nor_job.specs.Written.{AreBytes}
use Rattle.nor_job.specs.declared.fault.BuildFault.{BuildFault}
use Rattle.nor_job.specs.declared.fault.BuildFault.TheVariants as fault
use Rattle.nor_job.specs.declared.job.Job.{Job}
use Rattle.nor_layout.specs.Region.{Region}
use Rattle.nor_outline.specs.Outline.{plan_of, IsStretchPlan}
use Rattle.nor_outline.specs.Told.{unit_outline}
use Rattle.nor_outline.specs.Lines.{lines_text}
use Rattle.nor_outline.specs.declared.line.PlanLine.{PlanLine}
use Rattle.nor_outline.specs.declared.line.PlanLine.TheVariants.{Because}
use Rattle.nor_steps.specs.Stretch.{stretch}
use Rattle.nor_steps.specs.Tally.{IsFew}
use Rattle.nor_steps.specs.Texts.{IsTold}
use Rattle.nor_steps.specs.Writing.{Writing}
use Rattle.nor_steps.specs.declared.tally.Tally.{Tally}
use Rattle.nor_base.specs.Wire.{Wire, wire}
use Rattle.norprog.specs.Build.{ignored_of, report_of}
use Rattle.norprog.specs.Plan.{IsPlanOf, StopsPlan}
use Rattle.norprog.specs.Update.{asked, CanBeDone, IsDoneBy}
use Rattle.norprog.specs.Windows.{first_writing, progress, Window, window_of, IsCutPlan, StopsWindow}
use Rattle.norprog.specs.declared.report.Report.{Report}

-- how far the plan of a job is: its work, the bytes of a window, and of the room for what a window must hold; the address up to
-- which the content was planned, and how much the steps are
pub record Planning : Type 0 where
  pub job : Job
  pub work : Writing
  pub window : ℕ
  pub room : ℕ
  pub at : ℕ
  pub told : Tally

-- it is at a window's start, or at the end of the chip
pub record IsReady (p : Planning) : Type 0 where
  pub accepted : IsAccepted p.job.meaning
  pub window : IsWindowSize p.job.meaning p.window
  pub room : p.room ≡ p.window
  pub meaning : p.work.streaming.meaning ≡ p.job.meaning
  pub driven : p.work.streaming.by ≡ strategy p.job.meaning p.job.start
  pub within : p.at ≤ p.job.meaning.size
  pub few : IsFew p.at p.told
  pub aligned : p.at < p.job.meaning.size → p.at % p.window ≡ 0

-- what a plan of windows gives: the work after them, how much their steps are, and their lines
pub record Outlined : Type 0 where
  pub work : Writing
  pub told : Tally
  pub lines : List PlanLine

abbrev pub outlined : Writing → Tally → List PlanLine → Outlined
outlined work told lines = record { work = work; told = told; lines = lines }

-- the window was read, and its plan, of the units that start there, is this whatever the rest of the chip holds
pub record IsPlannedPart (w : Window) (work : Writing) (before after : Ahead) (its : Outlined) : Type 0 where
  pub part : List ℕ
  pub size : length part ≡ w.count
  pub given : Gives before part after
  pub bytes : AreBytes (target_from w.job w.at part)
  pub steps : IsTold work its.work (stretch w.at part (target_from w.job w.at part)) its.told
  pub plan : IsStretchPlan w.job.meaning (strategy w.job.meaning w.job.start) (stretch w.at part (target_from w.job w.at part)) its.lines

-- why a window has no lines, whatever a writer held then
abbrev pub StopsPlanning : Window → Writing → Ahead → Ahead → BuildFault → Type 0
StopsPlanning w work before after why = (x : Option (List ℕ)) → StopsWindow unit_outline w (progress work x before) (wire x after) why

-- all of the content before its address was, and these are the lines of all its windows
abbrev pub HasTold : Planning → Ahead → Ahead → List PlanLine → Type 0
HasTold p first now lines = IsPlannedPart (window_of p.job 0 p.at) (first_writing p.job) first now (outlined p.work p.told lines)

-- why a plan is cut short before its first window
abbrev pub StopsBefore : Job → BuildFault → Type 0
StopsBefore job why = (ahead : Ahead) (x : Option (List ℕ)) → IsCutPlan job (wire x ahead) (wire x ahead) why

-- lines of the next window follow those before; at the chip's end there are none, and nothing changes
abbrev pub GoesOn : Planning → Planning → Ahead → Ahead → Option (List PlanLine) → Type 0
GoesOn p q before after (Some lines) =
    IsReady q × (q.job ≡ p.job) × (p.at < q.at)
    × ((first : Ahead) (told : List PlanLine) → HasTold p first before told → HasTold q first after (told ++ lines))
GoesOn p q before after None = (q ≡ p) × (after ≡ before) × (p.at ≡ p.job.meaning.size)

-- why there are no more: so a plan is cut short whose writer took the lines so far
abbrev pub CutsPlan : Planning → Ahead → Ahead → BuildFault → Type 0
CutsPlan p before after why =
    (first : Ahead) (told : List PlanLine) (x y : Option (List ℕ)) → HasTold p first before told → Appends x y (lines_text told) → IsCutPlan p.job (wire x first) (wire y after) why

-- a plan that is told: its lines and its report
pub record ToldPlan : Type 0 where
  pub lines : List PlanLine
  pub report : Report

abbrev pub told_plan : List PlanLine → Report → ToldPlan
told_plan lines report = record { lines = lines; report = report }

-- the inputs are accepted, the reader gave the whole content, work can be done on it, and the plan's lines are those of the units
-- of the planned work; its report is of these units and of the steps of that work
pub record IsPlanned (t : Task) (len : ℕ) (before after : Ahead) (plan : ToldPlan) : Type 0 where
  pub image : Pairs
  pub regions : List Region
  pub m : Parameters
  pub accepted : AreAccepted t len image regions m
  pub content : List ℕ
  pub whole : length content ≡ len
  pub given : Gives before content after
  pub workable : CanBeDone (asked t image regions m content)
  pub are : plan.lines ≡ plan_of m (start_of t) content (wanted t image regions content)
  pub steps : List Step
  pub planned : IsDoneBy (asked t image regions m content) steps
  pub told : plan.report ≡ report_of (asked t image regions m content) (ignored_of t image regions m) steps

-- the whole plan, of whatever inputs the job is of
abbrev pub EndsPlan : Planning → Report → Type 0
EndsPlan p report =
    (t : Task) (len : ℕ) (first now : Ahead) (lines : List PlanLine) → IsJob t len p.job → HasTold p first now lines → IsPlanned t len first now (told_plan lines report)

-- all lines that a planner had left were put behind those before
pub record PutsPlan (p q : Planning) (before after : Wire) : Type 0 where
  pub ready : IsReady q
  pub job : q.job ≡ p.job
  pub whole : q.at ≡ q.job.meaning.size
  pub put : (first : Ahead) (told : List PlanLine) (x : Option (List ℕ)) → HasTold p first before.ahead told → Appends x before.held (lines_text told)
      → (lines : List PlanLine) × HasTold q first after.ahead lines × Appends x after.held (lines_text lines)

-- or some of them were
abbrev pub CutsPut : Planning → Wire → Wire → BuildFault → Type 0
CutsPut p before after why =
    (first : Ahead) (told : List PlanLine) (x : Option (List ℕ)) → HasTold p first before.ahead told → Appends x before.held (lines_text told)
    → IsCutPlan p.job (wire x first) after why

-- the lines of a plan were put, of whatever inputs the job is of
abbrev pub PlansJob : Job → Wire → Wire → Report → Type 0
PlansJob job before after report = (t : Task) (len : ℕ) → IsJob t len job → IsPlanOf t len before after report

-- a job's plan that is cut short is that of whatever inputs the job is of
abbrev pub CutsInputs : Type 0
CutsInputs = (t : Task) (len : ℕ) (job : Job) (before after : Ahead) (x y : Option (List ℕ)) (why : BuildFault) → IsJob t len job
    → IsCutPlan job (wire x before) (wire y after) why → StopsPlan t len (wire x before) (wire y after) why

-- a plan is cut short wherever its writer stopped in the text of the lines so far, since it failed or a growth was refused
abbrev pub CutsAnywhere : Type 0
CutsAnywhere = (p : Planning) (first now : Ahead) (x y : Option (List ℕ)) (lines : List PlanLine) (front rest : List ℕ) (why : BuildFault)
    → IsReady p → HasTold p first now lines → lines_text lines ≡ front ++ rest → Appends x y front → (why ≡ fault.Write) ⊎ (why ≡ fault.Memory)
    → IsCutPlan p.job (wire x first) (wire y now) why

-- of the lines so far that tell no reason there are at most 2^31 for each address
abbrev pub AreFew : Type 0
AreFew = (p : Planning) (first now : Ahead) (lines : List PlanLine) (tells : PlanLine → Bool) → ((start cause : ℕ) → tells (Because start cause) ≡ false)
    → IsReady p → HasTold p first now lines → count_by tells lines ≤ p.at * 2 ^ 31
