-- What is told of a plan (this project's).
use Rattle.std.specs.Prelude.{◌≡◌, ℕ, Bool, true, false, List, [], ◌++◌, Option, Some, None, option_map}
use Rattle.nor_base.specs.Device.{Ahead}
use Rattle.nor_base.specs.Parameters.{Parameters}
use Rattle.nor_hex.specs.Image.{Pairs}
use Rattle.nor_job.specs.Causes.{HasRegions}
use Rattle.nor_job.specs.Status.{start_of}
use Rattle.nor_job.specs.Task.{Task, Origin, Sfdp, Uniform, Sheet}
use Rattle.nor_layout.specs.Chosen.{has, is_chosen}
use Rattle.nor_layout.specs.declared.chosen.Interval.{Interval}
use Rattle.nor_layout.specs.Region.{Region}
use Rattle.nor_map.specs.Marks.{Marks, marks_of}
use Rattle.nor_map.specs.Totals.{Prints, totals_text}
use Rattle.nor_outline.specs.Lines.{lines_text}
use Rattle.nor_outline.specs.declared.line.PlanLine.{PlanLine}
use Rattle.nor_times.specs.declared.times.Times.{Times}
use Rattle.nor_times.specs.Times.{times_of}
use Rattle.nor_times.specs.Busy.{busy_of}
use Rattle.nor_times.specs.Bus.{bus_of}
use Rattle.nor_times.specs.Text.{times_text}
use Rattle.norprog.specs.Planner.{told_plan, IsPlanned}
use Rattle.norprog.specs.Report.{report_text}
use Rattle.norprog.specs.declared.report.Report.{Report}
use Rattle.norprog_plan.specs.declared.outline.Shows.{Shows}
use Rattle.norprog_plan.specs.declared.outline.Told.{Told}
use Rattle.norprog_plan.specs.Regions.{EndsWith}

-- the times that a chip's tables tell; a chip of a size alone, or of a sheet, has none
abbrev pub tables_times : Origin → Option Times
tables_times (Sfdp bytes bits) = times_of bytes
tables_times (Uniform size) = None
tables_times (Sheet text) = None

-- the lines on how long the lines of a plan of the task take
abbrev pub times_lines : Task → Parameters → List PlanLine → List ℕ
times_lines t m lines = times_text (option_map (λ times. busy_of times m lines) (tables_times t.chip)) (bus_of m (start_of t) t.verify lines)

-- the report of a plan, and its times where they are asked for
abbrev pub behind_lines : Bool → Report → Task → Parameters → List PlanLine → List ℕ
behind_lines true report t m lines = report_text report ++ times_lines t m lines
behind_lines false report t m lines = report_text report

-- these bytes are the picture of these marks: they have their totals
abbrev pub IsDrawn : Option Marks → List ℕ → Type 0
IsDrawn None picture = picture ≡ []
IsDrawn (Some marks) picture = Prints picture (totals_text marks)

-- these bytes are the picture of such a plan: they have the totals of its lines on the chip, of which the image's bytes at the chosen
-- addresses are new
pub record IsMap (t : Task) (m : Parameters) (lines : List PlanLine) (picture : List ℕ) : Type 0 where
  pub image : Pairs
  pub regions : List Region
  pub chosen : Option (List Interval)
  pub named : HasRegions t image regions
  pub chooses : (a : ℕ) → has chosen a ≡ is_chosen regions t.regions a
  pub drawn : Prints picture (totals_text (marks_of m.size m.page (record { image = image; base = t.base; chosen = chosen }) lines))

-- they are where one is asked for; else there are none
abbrev pub IsPicture : Bool → Task → Parameters → List PlanLine → List ℕ → Type 0
IsPicture true t m lines picture = IsMap t m lines picture
IsPicture false t m lines picture = picture ≡ []

-- what tells a plan: the text of its lines, what stands behind them, and its picture
pub record Outline : Type 0 where
  pub lines : List ℕ
  pub rest : List ℕ
  pub picture : List ℕ

abbrev pub outline : List ℕ → Told → Outline
outline lines told = record { lines = lines; rest = told.rest.items; picture = told.picture.items }

-- it tells the plan of the task, of so long a content that is ahead: behind the lines stand its report, its times and the lines of its chosen
-- regions, where these are asked for; the picture, where that is, has its totals
pub record IsOutline (shows : Shows) (t : Task) (len : ℕ) (content : Ahead) (o : Outline) : Type 0 where
  pub after : Ahead
  pub lines : List PlanLine
  pub report : Report
  pub planned : IsPlanned t len content after (told_plan lines report)
  pub text : o.lines ≡ lines_text lines
  pub ends : EndsWith shows.regions t len (behind_lines shows.times report t planned.m lines) o.rest
  pub picture : IsPicture shows.picture t planned.m lines o.picture
