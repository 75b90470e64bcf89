-- What is added up of a plan's lines as they are printed (this project's).
use Rattle.std.specs.Prelude.{◌≡◌, ℕ, ◌+◌, ◌^◌, ◌<◌, List, [], count_by, Option, IfSome}
use Rattle.std.specs.Io.KnownBytes.{Appends}
use Rattle.nor_job.specs.declared.job.Job.{Job}
use Rattle.nor_job.specs.Job.{IsJob}
use Rattle.nor_job.specs.Task.{Task}
use Rattle.nor_job.specs.Written.{Passed}
use Rattle.nor_map.specs.Cells.{Wanted}
use Rattle.nor_map.specs.Marks.{erases, marks_of, programs}
use Rattle.nor_outline.specs.Lines.{lines_text}
use Rattle.nor_outline.specs.declared.line.PlanLine.{PlanLine}
use Rattle.nor_times.specs.Bus.{is_work}
use Rattle.nor_times.specs.Timing.{timing_of}
use Rattle.nor_times.specs.declared.times.Times.{Times}
use Rattle.norprog.specs.Planner.{Planning, IsReady, HasTold, told_plan, IsPlanned}
use Rattle.norprog.specs.declared.report.Report.{Report}
use Rattle.norprog_plan.specs.declared.sums.Sums.{Sums}

-- what a chip is to hold by a job
abbrev pub wanted_of : Job → Wanted
wanted_of job = record { image = job.image; base = job.base; chosen = job.chosen }

-- they are those of the lines of a job's plan, on a chip whose tables tell these times
pub record AreSums (job : Job) (known : Option Times) (sums : Sums) (lines : List PlanLine) : Type 0 where
  pub times : sums.times ≡ timing_of job.meaning job.start job.verify known lines
  pub marks : IfSome sums.marks (λ marks. marks ≡ marks_of job.meaning.size job.meaning.page (wanted_of job) lines)

-- so many lines more can be counted
pub record HasRoom (sums : Sums) (lines : List PlanLine) : Type 0 where
  pub times : sums.times.works + count_by is_work lines < 2 ^ 64
  pub marks : IfSome sums.marks (λ marks. (marks.blocks + count_by erases lines < 2 ^ 64) × (marks.programs + count_by programs lines < 2 ^ 64))

-- what was added up of no lines is now of these
abbrev pub GrewBy : Job → Sums → Sums → List PlanLine → Type 0
GrewBy job begun done lines = (known : Option Times) → AreSums job known begun [] → AreSums job known done lines

-- the lines of all windows so far were printed and added up
pub record HasPrinted (p : Planning) (begun done : Sums) (by : Passed) : Type 0 where
  pub lines : List PlanLine
  pub told : HasTold p by.ahead by.rest lines
  pub put : Appends by.begun by.ended (lines_text lines)
  pub sums : GrewBy p.job begun done lines

-- those of all windows were
pub record PrintsAll (p q : Planning) (begun done : Sums) (by : Passed) : Type 0 where
  pub ready : IsReady q
  pub job : q.job ≡ p.job
  pub whole : q.at ≡ q.job.meaning.size
  pub printed : HasPrinted q begun done by

-- the lines of the plan of whatever inputs the job is of were printed and added up, and this is its report
pub record PrintsLines (job : Job) (begun done : Sums) (by : Passed) (report : Report) : Type 0 where
  pub lines : List PlanLine
  pub planned : (t : Task) (len : ℕ) → IsJob t len job → IsPlanned t len by.ahead by.rest (told_plan lines report)
  pub put : Appends by.begun by.ended (lines_text lines)
  pub sums : GrewBy job begun done lines
