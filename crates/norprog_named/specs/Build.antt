-- How `build` ends (this project's).
use Rattle.std.specs.Prelude.{◌≡◌, ℕ, List, [], ◌∷◌, ◌++◌, Option, Result, Ok, Err}
use Rattle.nor_job.specs.Written.{Passed}
use Rattle.nor_base.specs.Device.{Ahead}
use Rattle.nor_job.specs.declared.fault.BuildFault.{BuildFault}
use Rattle.nor_job.specs.declared.fault.BuildFault.TheVariants as fault
use Rattle.nor_job.specs.Causes.{RefusesInputs}
use Rattle.nor_job.specs.Task.{Task}
use Rattle.nor_base.specs.Wire.{wire}
use Rattle.norprog.specs.Build.{IsBuilt, StopsWork}
use Rattle.norprog.specs.declared.report.Report.{Report}
use Rattle.norprog_common.specs.Rules.{BreaksRules, MeetsRules}
use Rattle.norprog_common.specs.declared.faults.FileName.TheVariants as file
use Rattle.norprog_common.specs.declared.faults.Refusal.{Refusal}
use Rattle.norprog_common.specs.declared.faults.Refusal.TheVariants.{Build}
use Rattle.norprog_common.specs.declared.given.OutFile.{OutFile}
use Rattle.norprog_common.specs.declared.request.Request.{Request}
use Rattle.norprog_common.specs.declared.rules.ImageRules.{ImageRules}
use Rattle.norprog_files.specs.Files.{Event, Denied, Denies, IsClosed, Lost, Made, Sent}
use Rattle.norprog_files.specs.declared.replaced.OutKind.TheVariants as kind
use Rattle.norprog_named.specs.Opening.{IsJobOf, StopsJob}

-- the work of a build: its task, the content's length, what the content's reader had ahead and what it has, what the output held and what
-- it holds
pub record Work : Type 0 where
  pub task : Task
  pub len : ℕ
  pub content : Ahead
  pub rest : Ahead
  pub begun : Option (List ℕ)
  pub ended : Option (List ℕ)

abbrev pub work : Task → ℕ → Passed → Work
work t len by = record { task = t; len = len; content = by.ahead; rest = by.rest; begun = by.begun; ended = by.ended }

-- the headline's: the script of the task was written whole, and this is its report
abbrev pub IsBuiltBy : Work → Report → Type 0
IsBuiltBy w report = IsBuilt w.task w.len (wire w.begun w.content) (wire w.ended w.rest) report

-- why a job isn't done: its image breaks a rule, the inputs are refused, or the work stops so (`Stops`), where the reader (`Unread`) or the
-- writer (`Unwritten`) failed if that is told
pub data Undone (rules : ImageRules) (w : Work) (Stops : BuildFault → Type 0) (Unread Unwritten : Type 0) : Refusal → Type 0 where
  Breaking : (why : Refusal) → BreaksRules rules w.task w.len why → w.ended ≡ w.begun → Undone rules w Stops Unread Unwritten why
  Refused : (why : BuildFault) → RefusesInputs w.task w.len why → w.ended ≡ w.begun → Undone rules w Stops Unread Unwritten (Build why)
  Stopped : (why : BuildFault) → MeetsRules rules w.task w.len → Stops why → (why ≡ fault.Read → Unread) → (why ≡ fault.Write → Unwritten)
      → Undone rules w Stops Unread Unwritten (Build why)

-- why nothing is built: the work stops, and what the output took is no whole script
abbrev pub Unbuilt : ImageRules → Work → Type 0 → Type 0 → Refusal → Type 0
Unbuilt rules w = Undone rules w (StopsWork w.task w.len (wire w.begun w.content) (wire w.ended w.rest))

-- how `build` ends, and what was done with files by then
pub data EndsBuild (Unread : Type 0) (r : Request) (out : OutFile) : List Event → Result Report Refusal → Type 0 where
  -- the output was sent the script of the request's job
  Built : (w : Work) (job : List Event) (report : Report) → IsJobOf r w.task w.content w.len job → MeetsRules r.rules w.task w.len → IsBuiltBy w report
      → EndsBuild Unread r out (job ++ (Made out kind.Script w.begun ∷ Sent out.path.now w.ended ∷ [])) (Ok report)
  -- a file of the job can't be opened, or its image has no text
  NoInput : (log : List Event) (why : Refusal) → StopsJob r log why → EndsBuild Unread r out log (Err why)
  -- the output can't be made
  NoOutput : (t : Task) (content : Ahead) (len : ℕ) (job : List Event) (why : Refusal) → IsJobOf r t content len job → Denies file.Out why
      → EndsBuild Unread r out (job ++ (Denied out.path.now ∷ [])) (Err why)
  -- nothing is built, whatever came of the closing; some of a script hasn't gone out
  NotBuilt : (w : Work) (job : List Event) (last : Event) (why : Refusal) → IsJobOf r w.task w.content w.len job → IsClosed out.path.now w.ended last
      → Unbuilt r.rules w Unread (last ≡ Lost out.path.now w.ended) why → EndsBuild Unread r out (job ++ (Made out kind.Script w.begun ∷ last ∷ [])) (Err why)
  Unsent : (w : Work) (job : List Event) (report : Report) → IsJobOf r w.task w.content w.len job → IsBuiltBy w report
      → EndsBuild Unread r out (job ++ (Made out kind.Script w.begun ∷ Lost out.path.now w.ended ∷ [])) (Err (Build fault.Write))
