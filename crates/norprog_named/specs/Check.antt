-- How `check` ends (this project's).
use Rattle.std.specs.Prelude.{ℕ, List, [], ◌∷◌, ◌++◌, Result, Ok, Err}
use Rattle.nor_base.specs.Device.{Ahead}
use Rattle.nor_check.specs.declared.verdict.Verdict.{Verdict}
use Rattle.nor_check.specs.declared.verdict.Verdict.TheVariants.{Yes, No}
use Rattle.nor_job.specs.Task.{Task}
use Rattle.norprog_check.specs.Stream.{IsFound, Unchecked, Work}
use Rattle.norprog_check.specs.declared.fault.CheckStop.TheVariants as check
use Rattle.norprog_check.specs.declared.fault.StreamStop.{StreamStop}
use Rattle.norprog_check.specs.declared.fault.StreamStop.TheVariants as stream
use Rattle.norprog_check.specs.declared.finding.Finding.{Finding}
use Rattle.norprog_common.specs.Lines.{script_refusal}
use Rattle.norprog_common.specs.Rules.{BreaksRules, MeetsRules}
use Rattle.norprog_common.specs.declared.faults.FileName.TheVariants as file
use Rattle.norprog_common.specs.declared.faults.Refusal.{Refusal}
use Rattle.norprog_common.specs.declared.faults.Refusal.TheVariants.{Build, File}
use Rattle.norprog_common.specs.declared.request.Request.{Request}
use Rattle.norprog_files.specs.Files.{Denied, Denies, Event, Opened}
use Rattle.norprog_named.specs.Opening.{IsJobOf, StopsJob}

-- the files of the job were opened, then the script: the work is of their job, and of this script
pub data Opens (r : Request) (script : List ℕ) (w : Work) : List Event → Type 0 where
  Opens_all : (job : List Event) (len : ℕ) → IsJobOf r w.task w.content w.len job → Opens r script w (job ++ (Opened script w.script len ∷ []))

-- what is told where nothing is found
abbrev pub refusal_of : StreamStop → Refusal
refusal_of (stream.Check (check.Build why)) = Build why
refusal_of (stream.Check (check.Script why)) = script_refusal why
refusal_of (stream.Device failed) = File file.Script

-- 0 where the script does its job, else 1
abbrev pub verdict_status : Verdict → ℕ
verdict_status Yes = 0
verdict_status (No step why) = 1

-- how `check` ends, and what was done with files by then
pub data EndsCheck (Unread : Type 0) (r : Request) (script : List ℕ) : List Event → Result Finding Refusal → Type 0 where
  -- this is found of the text that the script's file has, for the job of the files of the request
  Checked : (w : Work) (log : List Event) (found : Finding) → Opens r script w log → MeetsRules r.rules w.task w.len → IsFound w found
      → EndsCheck Unread r script log (Ok found)
  -- a file of the job can't be opened, or its image has no text
  NoInput : (log : List Event) (why : Refusal) → StopsJob r log why → EndsCheck Unread r script log (Err why)
  -- the script can't be opened
  NoScript : (t : Task) (content : Ahead) (len : ℕ) (job : List Event) (why : Refusal) → IsJobOf r t content len job → Denies file.Script why
      → EndsCheck Unread r script (job ++ (Denied script ∷ [])) (Err why)
  -- the image breaks a rule
  Breaking : (w : Work) (log : List Event) (why : Refusal) → Opens r script w log → BreaksRules r.rules w.task w.len why
      → EndsCheck Unread r script log (Err why)
  -- the inputs are refused, or the script, or the content; a file is blamed for a reading only where a reader has failed
  Refused : (w : Work) (log : List Event) (why : StreamStop) → Opens r script w log → MeetsRules r.rules w.task w.len → Unchecked w Unread Unread why
      → EndsCheck Unread r script log (Err (refusal_of why))
