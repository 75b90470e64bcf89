-- What is to be played on which chip, and why that isn't known (this project's).
use Rattle.std.specs.Prelude.{◌≡◌, ◌≢◌, ⊤, ℕ, List, length, Result, Ok, Err}
use Rattle.nor_base.specs.declared.step.Step.{Step}
use Rattle.nor_base.specs.Device.{Ahead, Gives, IsAtEnd, raised}
use Rattle.nor_base.specs.Parameters.{Parameters}
use Rattle.nor_base.specs.Script.{IsScript}
use Rattle.nor_job.specs.declared.fault.BuildFault.TheVariants as fault
use Rattle.nor_job.specs.Task.{Task}
use Rattle.nor_script.specs.Faults.{IsFault}
use Rattle.nor_script.specs.Stream.{HadText, IsSpelled}
use Rattle.norprog_common.specs.Content.{ReadsLess}
use Rattle.norprog_common.specs.Setup.{IsKnown, RefusesChipOf}
use Rattle.norprog_common.specs.declared.faults.FileName.TheVariants as file
use Rattle.norprog_common.specs.declared.faults.Refusal.{Refusal}
use Rattle.norprog_common.specs.declared.faults.Refusal.TheVariants.{Build, File, Script}

-- what is ahead of a reader, and what after it was read
pub record Source : Type 0 where
  pub ahead : Ahead
  pub rest : Ahead

abbrev pub source : Ahead → Ahead → Source
source ahead rest = record { ahead = ahead; rest = rest }

-- what a play is read from: the task that has the chip, how many bytes the content has, and the readers of the script and of the content
pub record Sources : Type 0 where
  pub task : Task
  pub len : ℕ
  pub script : Source
  pub content : Source

abbrev pub sources : Task → ℕ → Source → Source → Sources
sources task len script content = record { task = task; len = len; script = script; content = content }

-- the inputs don't contradict one another and give the chip these parameters, and the content has its size
pub record IsSized (t : Task) (len : ℕ) (m : Parameters) : Type 0 where
  pub known : IsKnown t m
  pub size : len ≡ m.size

-- and the script's reader gave the text of these steps, and the content's reader the whole content
pub record IsReady (s : Sources) (m : Parameters) (steps : List Step) (content : List ℕ) : Type 0 where
  pub sized : IsSized s.task s.len m
  pub spelled : HadText s.script.ahead s.script.rest (λ text. IsScript text steps)
  pub whole : length content ≡ s.len
  pub given : Gives s.content.ahead content s.content.rest

-- why the inputs give no such chip; no earlier cause holds
abbrev pub RefusesSize : Task → ℕ → Refusal → Type 0
RefusesSize t len (Build fault.ContentSize) = (m : Parameters) × IsKnown t m × (len ≢ m.size)
RefusesSize t len other = RefusesChipOf t other

-- there is such a chip
abbrev pub HasSized : Task → ℕ → Type 0
HasSized t len = (m : Parameters) × IsSized t len m

-- why the script's reader gives no steps: its text has a fault, it failed, or memory was refused
abbrev pub RefusesScript : Ahead → Ahead → Refusal → Type 0
RefusesScript script script' (Script why) = HadText script script' (λ text. IsFault text why)
RefusesScript script script' (File file.Script) = ⊤
RefusesScript script script' (Build fault.Memory) = ⊤
RefusesScript script script' other = ⊥

-- why nothing is played; except for Memory and a reader of the script that failed, no earlier cause holds
abbrev pub RefusesJob : Sources → Refusal → Type 0
RefusesJob s (Script why) = HasSized s.task s.len × HadText s.script.ahead s.script.rest (λ text. IsFault text why)
RefusesJob s (File file.Script) = HasSized s.task s.len
RefusesJob s (Build fault.ContentShort) =
    HasSized s.task s.len × HadText s.script.ahead s.script.rest IsSpelled × ReadsLess s.len s.content.ahead s.content.rest × IsAtEnd s.content.rest
RefusesJob s (Build fault.Read) = HasSized s.task s.len × HadText s.script.ahead s.script.rest IsSpelled × ReadsLess s.len s.content.ahead s.content.rest
RefusesJob s (Build fault.Memory) = HasSized s.task s.len
RefusesJob s other = RefusesSize s.task s.len other

-- the count of failures of the script's reader rises by one exactly where its file is told
abbrev pub of_script : Refusal → ℕ
of_script (File file.Script) = 1
of_script other = 0

abbrev pub CountsScript : {T : Type 0} → ℕ → ℕ → Result T Refusal → Type 0
CountsScript before after (Ok x) = after ≡ before
CountsScript before after (Err why) = after ≡ raised before (of_script why)

-- a refusal that comes before any content is read
abbrev pub IsEarly : Refusal → Type 0
IsEarly (Build fault.ContentShort) = ⊥
IsEarly (Build fault.Read) = ⊥
IsEarly (Build fault.Memory) = ⊥
IsEarly other = Unit {0}

-- and before the script is
abbrev pub IsOfChip : Refusal → Type 0
IsOfChip (Script why) = ⊥
IsOfChip (File name) = ⊥
IsOfChip why = IsEarly why
