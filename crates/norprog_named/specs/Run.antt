-- How `run` ends (this project's).
use Rattle.std.specs.Prelude.{◌≡◌, ℕ, Bool, true, false, List, [], ◌∷◌, ◌++◌, Option, Some, None, Result, Ok, Err}
use Rattle.nor_base.specs.Device.{Ahead}
use Rattle.nor_job.specs.declared.fault.BuildFault.TheVariants as fault
use Rattle.nor_script.specs.Stream.{HadText}
use Rattle.norprog_common.specs.Chip.{origin_of}
use Rattle.norprog_common.specs.Setup.{setup_task}
use Rattle.norprog_common.specs.declared.faults.FileName.{FileName}
use Rattle.norprog_common.specs.declared.faults.FileName.TheVariants as file
use Rattle.norprog_common.specs.declared.faults.Refusal.{Refusal}
use Rattle.norprog_common.specs.declared.faults.Refusal.TheVariants.{Build}
use Rattle.norprog_files.specs.Files.{Event, Denied, Denies, Lost, Made, Opened, Sent, StopsOpening}
use Rattle.norprog_common.specs.declared.given.OutFile.{OutFile}
use Rattle.norprog_files.specs.declared.replaced.OutKind.TheVariants as kind
use Rattle.norprog_named.specs.Job.{ReadsTables, origin_files}
use Rattle.norprog_run.specs.Play.{Play}
use Rattle.norprog_run.specs.Stream.{Blames, IsPlayed, Unplayed}
use Rattle.norprog_run.specs.declared.request.RunRequest.{RunRequest}
use Rattle.norprog_run.specs.declared.verdict.Verdict.{Verdict}

-- the files that a play reads, each with its option, in the order in which they are opened
abbrev pub run_files : RunRequest → List (FileName × List ℕ)
run_files r = origin_files (origin_of r.setup.chip) ++ ((file.Content, r.content.now) ∷ (file.Script, r.script.now) ∷ [])

-- those were opened: the tables, and what is ahead of the readers of the content, which has so many bytes, and of the script
pub data OpensPlay (r : RunRequest) (tables : List ℕ) (content : Ahead) (len : ℕ) (script : Ahead) : List Event → Type 0 where
  Opens_play : (size : ℕ) (log : List Event) → ReadsTables (origin_of r.setup.chip) tables log
      → OpensPlay r tables content len script (log ++ (Opened r.content.now content len ∷ Opened r.script.now script size ∷ []))

-- a play is the one that is asked for, of the content and the script that were opened
pub record IsPlayOf (r : RunRequest) (p : Play) (script : Ahead) (log : List Event) : Type 0 where
  pub tables : List ℕ
  pub opens : OpensPlay r tables p.content p.len script log
  pub chip : p.chip ≡ setup_task r.setup tables
  pub bench : p.bench ≡ r.bench

-- the output, where one is named, was made, took what the play put, and was closed: all of that has gone out, or (`false`) some may not have
pub data Closes (p : Play) : Option OutFile → Bool → List Event → Type 0 where
  NoOut : Closes p None true []
  OutSent : (o : OutFile) → Closes p (Some o) true (Made o (kind.Content p.len) p.begun ∷ Sent o.path.now p.ended ∷ [])
  OutLost : (o : OutFile) → Closes p (Some o) false (Made o (kind.Content p.len) p.begun ∷ Lost o.path.now p.ended ∷ [])

-- how `run` ends, and what was done with files by then
pub data EndsRun (Unread : Type 0) (r : RunRequest) : List Event → Result Verdict Refusal → Type 0 where
  -- the script that the file has was played, and the output, where one is named, was sent what the chip holds then
  Played : (p : Play) (script rest : Ahead) (read out : List Event) (verdict : Verdict) → IsPlayOf r p script read
      → HadText script rest (IsPlayed p verdict) → Closes p r.out true out → EndsRun Unread r (read ++ out) (Ok verdict)
  -- a file that is read can't be opened
  NoInput : (log : List Event) (why : Refusal) → StopsOpening (run_files r) log why → EndsRun Unread r log (Err why)
  -- the output can't be made
  NoOutput : (p : Play) (script : Ahead) (read : List Event) (o : OutFile) (why : Refusal) → IsPlayOf r p script read → r.out ≡ Some o
      → Denies file.Out why → EndsRun Unread r (read ++ (Denied o.path.now ∷ [])) (Err why)
  -- the script isn't played, or what the chip holds then isn't written, whatever came of the closing
  Refused : (p : Play) (script rest : Ahead) (read out : List Event) (sent : Bool) (why : Refusal) → IsPlayOf r p script read
      → Unplayed p script rest why → Closes p r.out sent out → Blames Unread Unread (sent ≡ false) why → EndsRun Unread r (read ++ out) (Err why)
  -- some of what the chip holds hasn't gone out
  Unsent : (p : Play) (script rest : Ahead) (read out : List Event) (verdict : Verdict) → IsPlayOf r p script read
      → HadText script rest (IsPlayed p verdict) → Closes p r.out false out → EndsRun Unread r (read ++ out) (Err (Build fault.Write))
