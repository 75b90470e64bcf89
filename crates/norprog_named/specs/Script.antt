-- How `script` ends (this project's).
use Rattle.std.specs.Prelude.{◌≡◌, ℕ, Bool, List, [], ◌∷◌, ◌++◌, Option, Some, None, option_map, Result, Ok, Err}
use Rattle.nor_job.specs.declared.fault.BuildFault.TheVariants as fault
use Rattle.norprog_common.specs.Chip.{Origin, origin_of}
use Rattle.norprog_common.specs.Setup.{setup_task}
use Rattle.norprog_common.specs.declared.faults.FileName.{FileName}
use Rattle.norprog_common.specs.declared.faults.FileName.TheVariants as file
use Rattle.norprog_common.specs.declared.faults.Refusal.{Refusal}
use Rattle.norprog_common.specs.declared.faults.Refusal.TheVariants.{Build}
use Rattle.norprog_common.specs.declared.setup.Setup.{Setup}
use Rattle.norprog_files.specs.Files.{Event, Denied, Denies, Given, IsClosed, Lost, Made, Sent, StopsOpening}
use Rattle.norprog_files.specs.declared.replaced.OutKind.TheVariants as kind
use Rattle.norprog_named.specs.Job.{ReadsNamed, chip_files}
use Rattle.norprog_script.specs.Written.{Source, WasWritten, RefusesLog, foreign, listed}
use Rattle.norprog_script.specs.declared.request.ScriptRequest.{ScriptRequest}
use Rattle.norprog_script.specs.declared.tally.Tally.{Tally}

-- the chip of a listing
abbrev pub origin_in : Option Setup → Option Origin
origin_in setup = option_map (λ s. origin_of s.chip) setup

-- the files that are read, each with its option, in the order in which they are opened
abbrev pub script_files : ScriptRequest → List (FileName × List ℕ)
script_files r = chip_files (origin_in r.chip) ++ ((file.Log, r.log.now) ∷ [])

-- what the log is: a listing of the chip, which has these tables; else a log of another tool
abbrev pub source : Bool → Option Setup → List ℕ → Source
source without None tables = foreign without
source without (Some setup) tables = listed (setup_task setup tables)

abbrev pub source_of : ScriptRequest → List ℕ → Source
source_of r tables = source r.without_identity r.chip tables

-- the tables of its chip were read, where they have a file, and then the log was: this is its text
pub data IsLogOf (r : ScriptRequest) (tables text : List ℕ) : List Event → Type 0 where
  Read_log : (log : List Event) → ReadsNamed (origin_in r.chip) tables log → IsLogOf r tables text (log ++ (Given r.log.now text ∷ []))

-- how `script` ends, and what was done with files by then
pub data EndsScript (r : ScriptRequest) : List Event → Result Tally Refusal → Type 0 where
  -- the output was sent the script of the log, and it has so many steps
  Written : (tables text : List ℕ) (read : List Event) (begun ended : Option (List ℕ)) (tally : Tally) → IsLogOf r tables text read
      → WasWritten (source_of r tables) text begun ended tally → EndsScript r (read ++ (Made r.out kind.Script begun ∷ Sent r.out.path.now ended ∷ [])) (Ok tally)
  -- a file that is read can't be
  NoInput : (log : List Event) (why : Refusal) → StopsOpening (script_files r) log why → EndsScript r log (Err why)
  -- the output can't be made
  NoOutput : (tables text : List ℕ) (read : List Event) (why : Refusal) → IsLogOf r tables text read → Denies file.Out why
      → EndsScript r (read ++ (Denied r.out.path.now ∷ [])) (Err why)
  -- the log has no script by the chip, the output failed, or memory ran out
  Refused : (tables text : List ℕ) (read : List Event) (begun ended : Option (List ℕ)) (last : Event) (why : Refusal) → IsLogOf r tables text read
      → RefusesLog (source_of r tables) text begun ended why → IsClosed r.out.path.now ended last → (why ≡ Build fault.Write → last ≡ Lost r.out.path.now ended)
      → EndsScript r (read ++ (Made r.out kind.Script begun ∷ last ∷ [])) (Err why)
  -- some of the script hasn't gone out
  Unsent : (tables text : List ℕ) (read : List Event) (begun ended : Option (List ℕ)) (tally : Tally) → IsLogOf r tables text read
      → WasWritten (source_of r tables) text begun ended tally → EndsScript r (read ++ (Made r.out kind.Script begun ∷ Lost r.out.path.now ended ∷ [])) (Err (Build fault.Write))
