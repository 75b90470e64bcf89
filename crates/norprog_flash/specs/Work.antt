-- The planned work from what a chip holds to what it must hold (this project's).
use Rattle.std.specs.Prelude.{◌≡◌, ◌<◌, ◌^◌, ℕ, List, length}
use Rattle.nor_base.specs.declared.step.Step.{Step}
use Rattle.nor_base.specs.Parameters.{Parameters}
use Rattle.nor_hex.specs.Image.{Pairs}
use Rattle.nor_job.specs.Causes.{AreAccepted}
use Rattle.nor_job.specs.Status.{start_of}
use Rattle.nor_job.specs.Task.{Task}
use Rattle.nor_job.specs.Wanted.{wanted}
use Rattle.nor_layout.specs.Region.{Region}
use Rattle.norprog.specs.Build.{ignored_of, report_of}
use Rattle.norprog.specs.PlanWindows.{plan_text}
use Rattle.norprog.specs.Update.{update, asked, CanBeDone, IsDoneBy}
use Rattle.norprog.specs.declared.report.Report.{Report}
use Rattle.norprog_flash.specs.declared.goal.Goal.{Goal}
use Rattle.norprog_flash.specs.declared.planned.Work.{Work}

-- the target of these bytes, and how many addresses the image has, and how many of them go nowhere
pub record IsGoal (t : Task) (old : List ℕ) (goal : Goal) : Type 0 where
  pub image : Pairs
  pub regions : List Region
  pub m : Parameters
  pub accepted : AreAccepted t (length old) image regions m
  pub bytes : goal.bytes.items ≡ wanted t image regions old
  pub size : length goal.bytes.items ≡ length old
  pub few : length old < 2 ^ 32
  pub given : goal.given ≡ length image
  pub ignored : goal.ignored ≡ ignored_of t image regions m

-- the lines of the plan of a content, which can be worked on, and its report
pub record HasPlan (t : Task) (content lines : List ℕ) (report : Report) : Type 0 where
  pub image : Pairs
  pub regions : List Region
  pub m : Parameters
  pub accepted : AreAccepted t (length content) image regions m
  pub text : lines ≡ plan_text m (start_of t) content (wanted t image regions content)
  pub workable : CanBeDone (asked t image regions m content)
  pub steps : List Step
  pub planned : IsDoneBy (asked t image regions m content) steps
  pub told : report ≡ report_of (asked t image regions m content) (ignored_of t image regions m) steps

-- what is planned: what the chip must hold, the steps, and the lines and the report of the plan
pub record Plan : Type 0 where
  pub goal : List ℕ
  pub steps : List Step
  pub lines : List ℕ
  pub report : Report

-- that of these steps
abbrev pub plan_of : Work → List Step → Plan
plan_of w steps = record { goal = w.goal.items; steps = steps; lines = w.lines.items; report = w.report }

-- the goal is the target of the old bytes; the steps are the planned work from the content to it; and the lines and the report are those of
-- just that work
pub record IsWork (t : Task) (content old : List ℕ) (p : Plan) : Type 0 where
  pub image : Pairs
  pub regions : List Region
  pub m : Parameters
  pub accepted : AreAccepted t (length content) image regions m
  pub goal_is : p.goal ≡ wanted t image regions old
  pub workable : CanBeDone (update m (start_of t) t.verify content p.goal)
  pub planned : IsDoneBy (update m (start_of t) t.verify content p.goal) p.steps
  pub lines : p.lines ≡ plan_text m (start_of t) content p.goal
  pub report : p.report ≡ report_of (update m (start_of t) t.verify content p.goal) (ignored_of t image regions m) p.steps
