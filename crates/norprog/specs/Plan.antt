-- What a plan promises (this project's).
use Rattle.std.specs.Prelude.{◌≡◌, ℕ, ◌≤◌, List, length, take}
use Rattle.std.specs.Io.KnownBytes.{Appends}
use Rattle.nor_base.specs.declared.step.Step.{Step}
use Rattle.nor_base.specs.Device.{Gives}
use Rattle.nor_base.specs.Parameters.{Parameters}
use Rattle.nor_geometry.specs.Window.{IsWindowSize}
use Rattle.nor_hex.specs.Image.{Pairs}
use Rattle.nor_layout.specs.Region.{Region}
use Rattle.nor_job.specs.declared.fault.BuildFault.{BuildFault}
use Rattle.nor_job.specs.Causes.{AreAccepted}
use Rattle.nor_job.specs.Status.{start_of}
use Rattle.nor_job.specs.Task.{Task}
use Rattle.nor_base.specs.Wire.{Wire}
use Rattle.norprog.specs.declared.report.Report.{Report}
use Rattle.nor_job.specs.Wanted.{wanted}
use Rattle.norprog.specs.Build.{ignored_of, report_of}
use Rattle.norprog.specs.PlanWindows.{plan_text, TellsWindows}
use Rattle.norprog.specs.Update.{asked, CanBeDone, IsDoneBy, WorkCause}
use Rattle.norprog.specs.Windows.{AreWindows}

-- the inputs are accepted, the reader gave the whole content, work can be done on it, and what was appended is the lines of
-- the units of the planned work; the report is of these units and of the steps of that work
pub record IsPlanOf (t : Task) (len : ℕ) (before after : Wire) (report : Report) : Type 0 where
  pub image : Pairs
  pub regions : List Region
  pub m : Parameters
  pub accepted : AreAccepted t len image regions m
  pub content : List ℕ
  pub whole : length content ≡ len
  pub given : Gives before.ahead content after.ahead
  pub workable : CanBeDone (asked t image regions m content)
  pub put : Appends before.held after.held (plan_text m (start_of t) content (wanted t image regions content))
  pub steps : List Step
  pub planned : IsDoneBy (asked t image regions m content) steps
  pub told : report ≡ report_of (asked t image regions m content) (ignored_of t image regions m) steps

-- the inputs are accepted, some of the content was read, its cause, and what was written: lines of the units that start in
-- its whole windows, whatever the rest of the chip holds and must hold
pub record StopsPlan (t : Task) (len : ℕ) (before after : Wire) (why : BuildFault) : Type 0 where
  pub image : Pairs
  pub regions : List Region
  pub m : Parameters
  pub accepted : AreAccepted t len image regions m
  pub part : List ℕ
  pub within : length part ≤ len
  pub given : Gives before.ahead part after.ahead
  pub cause : WorkCause (asked t image regions m part) after.ahead why
  pub window : ℕ
  pub its_size : IsWindowSize m window
  pub known : ℕ
  pub windows : AreWindows m.size window known (length part) why
  pub bytes : List ℕ
  pub lines : TellsWindows (asked t image regions m (take known part)) bytes why
  pub put : Appends before.held after.held bytes
