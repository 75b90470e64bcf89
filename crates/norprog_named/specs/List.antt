-- How `list` ends (this project's).
use Rattle.std.specs.Prelude.{◌≡◌, ℕ, Bool, ◌&&◌, List, [], ◌∷◌, ◌++◌, Some, is_some, Result, Ok, Err}
use Rattle.nor_base.specs.Chip.{begins4}
use Rattle.nor_base.specs.Device.{Ahead}
use Rattle.nor_base.specs.Parameters.{Parameters}
use Rattle.nor_job.specs.declared.fault.BuildFault.TheVariants as fault
use Rattle.nor_job.specs.Status.{start_of}
use Rattle.nor_job.specs.Task.{Task}
use Rattle.nor_listing.specs.Stream.{AreAboveFault, AreFirstLines, CutsSome, IsListed, IsWhole, PutsSome}
use Rattle.nor_listing.specs.declared.stream.Stop.{Stop}
use Rattle.nor_listing.specs.declared.stream.Stop.TheVariants as stop
use Rattle.nor_script.specs.Stream.{IsTextOf}
use Rattle.nor_script.specs.declared.fault.ReadFault.TheVariants as read
use Rattle.nor_script.specs.declared.fault.ScriptFault.{ScriptFault}
use Rattle.norprog_common.specs.Chip.{origin_of}
use Rattle.norprog_common.specs.Lines.{script_refusal}
use Rattle.norprog_common.specs.Setup.{AsksSetup, IsKnown, RefusesChipOf, is_setup, setup_task}
use Rattle.norprog_common.specs.declared.faults.FileName.{FileName}
use Rattle.norprog_common.specs.declared.faults.FileName.TheVariants as file
use Rattle.norprog_common.specs.declared.faults.Refusal.{Refusal}
use Rattle.norprog_common.specs.declared.faults.Refusal.TheVariants.{File, Build, Script}
use Rattle.norprog_common.specs.Told.{Fails, Output}
use Rattle.norprog_common.specs.declared.given.ListArgs.{ListArgs}
use Rattle.norprog_files.specs.Files.{Event, Opened, StopsOpening}
use Rattle.norprog_named.specs.Job.{ReadsTables, origin_files}
use Rattle.norprog_named.specs.declared.list_files.ListRequest.{ListRequest}

-- the script's file is named, and each value is of its form
abbrev pub is_list : ListArgs → Bool
is_list given = is_setup given.setup && is_some given.script

-- each value is the one that its text spells
pub record AsksList (given : ListArgs) (request : ListRequest) : Type 0 where
  pub setup : AsksSetup given.setup request.setup
  pub script : given.script ≡ Some request.script

-- the files that a listing reads, in the order in which they are opened
abbrev pub list_files : ListRequest → List (FileName × List ℕ)
list_files r = origin_files (origin_of r.setup.chip) ++ ((file.Script, r.script.now) ∷ [])

-- those were opened: this is the task that has the chip, and this is ahead of the script's reader
pub data Opens (r : ListRequest) : Task → Ahead → List Event → Type 0 where
  Opens_script : (tables : List ℕ) (script : Ahead) (len : ℕ) (log : List Event) → ReadsTables (origin_of r.setup.chip) tables log
      → Opens r (setup_task r.setup tables) script (log ++ (Opened r.script.now script len ∷ []))

-- what is listed: a text, by a chip that begins in four-byte address mode (`four`) or not
pub record Listing : Type 0 where
  pub chip : Parameters
  pub four : Bool
  pub text : List ℕ

-- it is that of a request: the text of the script that was opened, by the chip that is known, in the mode that it begins in
pub record IsListingOf (r : ListRequest) (l : Listing) (log : List Event) : Type 0 where
  pub task : Task
  pub script : Ahead
  pub rest : Ahead
  pub opens : Opens r task script log
  pub known : IsKnown task l.chip
  pub begins : l.four ≡ begins4 l.chip (start_of task)
  pub text : IsTextOf script rest l.text

-- what is told where the steps aren't all listed
abbrev pub refusal_of : Stop → Refusal
refusal_of (stop.Script (read.Script why)) = script_refusal why
refusal_of (stop.Script (read.Device failed)) = File file.Script
refusal_of (stop.Out failed) = Build fault.Write

-- how `list` ends, and what was done with files by then
pub data EndsList (Unread : Type 0) (r : ListRequest) (out : Output) : List Event → Result ℕ Refusal → Type 0 where
  -- the listing of the script was printed
  Listed : (l : Listing) (log : List Event) → IsListingOf r l log → PutsSome (IsWhole l.chip l.four l.text) out.before out.after → EndsList Unread r out log (Ok 0)
  -- a file can't be opened: nothing is printed
  NoInput : (log : List Event) (why : Refusal) → StopsOpening (list_files r) log why → out.after ≡ out.before → EndsList Unread r out log (Err why)
  -- the options contradict one another, the tables are refused, or the chip can't begin so: nothing is printed
  NoChip : (t : Task) (script : Ahead) (log : List Event) (why : Refusal) → Opens r t script log → RefusesChipOf t why → out.after ≡ out.before
      → EndsList Unread r out log (Err why)
  -- the script has a fault, and the lines above it were printed
  BadScript : (l : Listing) (log : List Event) (why : ScriptFault) → IsListingOf r l log → PutsSome (AreAboveFault l.chip l.four l.text why) out.before out.after
      → EndsList Unread r out log (Err (Script why))
  -- a reading of it failed, or memory ran out: the lines of its first steps were printed
  BadReading : (l : Listing) (log : List Event) → IsListingOf r l log → PutsSome (AreFirstLines l.chip l.four l.text) out.before out.after → Unread
      → EndsList Unread r out log (Err (File file.Script))
  NoMemory : (l : Listing) (log : List Event) → IsListingOf r l log → PutsSome (AreFirstLines l.chip l.four l.text) out.before out.after
      → EndsList Unread r out log (Err (Build fault.Memory))
  -- printing failed: a proper prefix of the listing was printed, or of the lines of the script's first steps
  BadOutput : (l : Listing) (log : List Event) → IsListingOf r l log → CutsSome (IsListed l.chip l.four l.text) out.before out.after → Fails out
      → EndsList Unread r out log (Err (Build fault.Write))
