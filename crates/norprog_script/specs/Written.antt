-- What a log's script is, and why there is none (this project's).
use Rattle.std.specs.Prelude.{◌≡◌, ℕ, Bool, List, length, Option}
use Rattle.std.specs.Io.KnownBytes.{Appends}
use Rattle.nor_base.specs.Chip.{begins4}
use Rattle.nor_base.specs.Device.{Cuts}
use Rattle.nor_base.specs.Parameters.{Parameters}
use Rattle.nor_base.specs.Script.{IsScript}
use Rattle.nor_job.specs.declared.fault.BuildFault.TheVariants as fault
use Rattle.nor_job.specs.Status.{start_of}
use Rattle.nor_job.specs.Task.{Task}
use Rattle.nor_listing.specs.Read.{IsListingOf, Refuses}
use Rattle.nor_listing.specs.declared.fault.ListFault.{ListFault}
use Rattle.nor_listing.specs.declared.fault.ListFault.TheVariants as listing
use Rattle.nor_log.specs.Log.{Log, IsLog, IsFirstStrange}
use Rattle.nor_log.specs.declared.fault.LogFault.{LogFault}
use Rattle.nor_log.specs.declared.fault.LogFault.TheVariants as log
use Rattle.norprog_common.specs.Setup.{IsKnown, RefusesChipOf}
use Rattle.norprog_common.specs.declared.faults.Refusal.{Refusal}
use Rattle.norprog_common.specs.declared.faults.Refusal.TheVariants.{Build, Log as Line}
use Rattle.norprog_script.specs.declared.tally.Tally.{Tally}

-- what a log is: of another tool, and whether reads of identities are left out; or the listing of a chip, which is that of a task
pub data Source : Type 0 where
  foreign : Bool → Source
  listed : Task → Source

-- a listing gives the steps that it lists, by the chip and from its first address mode on, and none is left out
pub record GivesListing (t : Task) (text : List ℕ) (log : Log) : Type 0 where
  pub m : Parameters
  pub known : IsKnown t m
  pub listed : IsListingOf m (begins4 m (start_of t)) text log.steps
  pub all : length log.left_out ≡ 0

-- the steps that a log gives: of one of another tool those of its lines, one by one
abbrev pub Gives : Source → List ℕ → Log → Type 0
Gives (foreign without) text log = IsLog without text log
Gives (listed chip) text log = GivesListing chip text log

-- these bytes are the script of the steps that a log gives
pub record IsScriptOfLog (from : Source) (text : List ℕ) (log : Log) (bytes : List ℕ) : Type 0 where
  pub read : Gives from text log
  pub script : IsScript bytes log.steps

-- how many steps the script has, and how many were left out
pub record IsTally (log : Log) (tally : Tally) : Type 0 where
  pub steps : tally.steps ≡ length log.steps
  pub left_out : tally.left_out ≡ length log.left_out

-- the script was appended
pub record WasWritten (from : Source) (text : List ℕ) (before after : Option (List ℕ)) (tally : Tally) : Type 0 where
  pub log : Log
  pub bytes : List ℕ
  pub is : IsScriptOfLog from text log bytes
  pub put : Appends before after bytes
  pub counts : IsTally log tally

-- a proper prefix of it was
pub record WasCut (from : Source) (text : List ℕ) (before after : Option (List ℕ)) : Type 0 where
  pub log : Log
  pub bytes : List ℕ
  pub is : IsScriptOfLog from text log bytes
  pub put : Cuts before after bytes

-- a fault of the text as a refusal
abbrev pub refusal_of : LogFault → Refusal
refusal_of (log.BadLine n) = Line n
refusal_of log.Memory = Build fault.Memory

-- that of a listing, as well
abbrev pub refusal_for : ListFault → Refusal
refusal_for (listing.BadLine n) = Line n
refusal_for listing.Memory = Build fault.Memory

-- a line of a listing is at fault, by the chip and from its first address mode on
pub record HasBadLine (t : Task) (text : List ℕ) (n : ℕ) : Type 0 where
  pub m : Parameters
  pub known : IsKnown t m
  pub bad : Refuses m (begins4 m (start_of t)) text (listing.BadLine n)

-- the line of the text that is at fault
abbrev pub IsAtFault : Source → List ℕ → ℕ → Type 0
IsAtFault (foreign without) text n = IsFirstStrange text n
IsAtFault (listed chip) text n = HasBadLine chip text n

-- there is no such chip
abbrev pub LacksChip : Source → Refusal → Type 0
LacksChip (foreign without) why = ⊥
LacksChip (listed chip) why = RefusesChipOf chip why

-- why a log's script isn't written; except where the writer failed nothing was appended
abbrev pub RefusesLog : Source → List ℕ → Option (List ℕ) → Option (List ℕ) → Refusal → Type 0
RefusesLog from text before after (Line n) = IsAtFault from text n × (after ≡ before)
RefusesLog from text before after (Build fault.Write) = WasCut from text before after
RefusesLog from text before after (Build fault.Memory) = after ≡ before
RefusesLog from text before after other = LacksChip from other × (after ≡ before)
