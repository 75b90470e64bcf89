-- How `plan` ends (this project's).
use Rattle.std.specs.Prelude.{◌≡◌, ℕ, List, [], ◌∷◌, ◌++◌, Option, Some, None, is_some, option_map, Result, Ok, Err}
use Rattle.std.specs.Io.KnownBytes.{Appends}
use Rattle.nor_job.specs.Written.{passed}
use Rattle.nor_base.specs.Device.{Ahead, Cuts}
use Rattle.nor_job.specs.Task.{Task}
use Rattle.nor_job.specs.declared.fault.BuildFault.TheVariants as fault
use Rattle.nor_base.specs.Wire.{wire}
use Rattle.norprog.specs.Plan.{StopsPlan}
use Rattle.norprog_common.specs.Request as job
use Rattle.norprog_common.specs.Rules.{MeetsRules}
use Rattle.norprog_common.specs.Told.{Fails, Output}
use Rattle.norprog_common.specs.declared.faults.FileName.TheVariants as file
use Rattle.norprog_common.specs.declared.faults.Refusal.{Refusal}
use Rattle.norprog_common.specs.declared.faults.Refusal.TheVariants.{Build}
use Rattle.norprog_common.specs.declared.given.OutFile.{OutFile}
use Rattle.norprog_common.specs.declared.given.PlanArgs.{PlanArgs}
use Rattle.norprog_common.specs.declared.rules.ImageRules.{ImageRules}
use Rattle.norprog_files.specs.Files.{Event, Leaves, Lost, Made, Sends, StopsOpening}
use Rattle.norprog_files.specs.declared.replaced.OutKind.TheVariants as kind
use Rattle.norprog_named.specs.Build.{Undone, Work, work}
use Rattle.norprog_named.specs.Job.{named_by}
use Rattle.norprog_named.specs.Opening.{IsJobOf, StopsJob}
use Rattle.norprog_named.specs.declared.plan_files.MapFile.{MapFile}
use Rattle.norprog_named.specs.declared.plan_files.PlanRequest.{PlanRequest}
use Rattle.norprog_plan.specs.Outline.{IsOutline, Outline}
use Rattle.norprog_plan.specs.declared.outline.Shows.{Shows}

-- each value is the one that its text spells
pub record AsksPlan (given : PlanArgs) (request : PlanRequest) : Type 0 where
  pub job : job.AsksFor given.job request.job
  pub times : request.times ≡ given.times
  pub regions : request.regions ≡ given.regions
  pub map : request.map ≡ given.map

-- what is told besides the lines and the report
abbrev pub shows_of : PlanRequest → Shows
shows_of r = record { times = r.times; regions = r.regions; picture = is_some r.map }

-- the picture's file was made, where one is named
pub data MakesMap {O : Type 0} (held : O → Option (List ℕ)) : Option OutFile → Option (MapFile O) → List Event → Type 0 where
  NoneMade : MakesMap held None None []
  MapMade : (map : MapFile O) → MakesMap held (Some map.out) (Some map) (Made map.out kind.Picture (held map.file) ∷ [])

-- this was done with it then, where one is named; else nothing was
pub data WithMap (Done : OutFile → List Event → Type 0) : Option OutFile → List Event → Type 0 where
  NoneNamed : WithMap Done None []
  MapNamed : (o : OutFile) (log : List Event) → Done o log → WithMap Done (Some o) log

-- it was sent just the picture
abbrev pub SendsMap : List ℕ → Option OutFile → List Event → Type 0
SendsMap picture = WithMap (λ o. Sends o kind.Picture picture)

-- it was left empty
abbrev pub LeavesMap : Option OutFile → List Event → Type 0
LeavesMap = WithMap (λ o. Leaves o kind.Picture [])

-- one is named, and some of the picture hasn't gone out
pub data LosesMap : Option OutFile → List Event → Type 0 where
  MapLost : (o : OutFile) (begun ended : Option (List ℕ)) → LosesMap (Some o) (Made o kind.Picture begun ∷ Lost o.path.now ended ∷ [])

-- the files of a request's job were opened, and this tells its plan; its image keeps the rules
pub record TellsJob (r : PlanRequest) (o : Outline) (job : List Event) : Type 0 where
  pub task : Task
  pub content : Ahead
  pub len : ℕ
  pub opens : IsJobOf r.job task content len job
  pub meets : MeetsRules r.job.rules task len
  pub tells : IsOutline (shows_of r) task len content o

-- why a plan isn't told: it stops, and just the lines before that were printed
abbrev pub Untold : ImageRules → Work → Type 0 → Type 0 → Refusal → Type 0
Untold rules w = Undone rules w (StopsPlan w.task w.len (wire w.begun w.content) (wire w.ended w.rest))

-- how `plan` ends, and what was done with files by then
pub data EndsPlan (Unread : Type 0) (r : PlanRequest) (out : Output) : List Event → Result ℕ Refusal → Type 0 where
  -- the lines of the plan and what stands behind them were printed, and its picture went out
  Told : (o : Outline) (job map : List Event) → TellsJob r o job → SendsMap o.picture r.map map → Appends out.before out.after (o.lines ++ o.rest)
      → EndsPlan Unread r out (job ++ map) (Ok 0)
  -- a file of the job can't be opened, or its image has no text: nothing is printed
  NoInput : (log : List Event) (why : Refusal) → StopsJob r.job log why → out.after ≡ out.before → EndsPlan Unread r out log (Err why)
  -- the file of the picture can't be made: nothing is printed
  NoMap : (t : Task) (content : Ahead) (len : ℕ) (job map : List Event) (why : Refusal) → IsJobOf r.job t content len job
      → StopsOpening (named_by file.Map (option_map (λ m. m.path.now) r.map)) map why → out.after ≡ out.before → EndsPlan Unread r out (job ++ map) (Err why)
  -- the plan isn't told, and the file of the picture is left empty
  NotTold : (t : Task) (content rest : Ahead) (len : ℕ) (job map : List Event) (why : Refusal) → IsJobOf r.job t content len job → LeavesMap r.map map
      → Untold r.job.rules (work t len (passed content rest out.before out.after)) Unread (Fails out) why → EndsPlan Unread r out (job ++ map) (Err why)
  -- all lines were printed, and some of the picture hasn't gone out
  Undrawn : (o : Outline) (job map : List Event) → TellsJob r o job → LosesMap r.map map → Appends out.before out.after o.lines
      → EndsPlan Unread r out (job ++ map) (Err (Build fault.Write))
  -- all lines were, the picture went out, and printing failed: a proper prefix of what stands behind the lines was printed
  Unprinted : (o : Outline) (job map : List Event) (middle : Option (List ℕ)) → TellsJob r o job → SendsMap o.picture r.map map → Appends out.before middle o.lines
      → Cuts middle out.after o.rest → Fails out → EndsPlan Unread r out (job ++ map) (Err (Build fault.Write))
