-- What a check of a script promises that a device tells (this project's).
use Rattle.std.specs.Prelude.{◌≡◌, ℕ}
use Rattle.nor_base.specs.Device.{Ahead}
use Rattle.nor_base.specs.declared.device.Failed.{Failed}
use Rattle.nor_job.specs.declared.fault.BuildFault.{BuildFault}
use Rattle.nor_job.specs.declared.fault.BuildFault.TheVariants as fault
use Rattle.nor_job.specs.Causes.{RefusesInputs}
use Rattle.nor_job.specs.Task.{Task}
use Rattle.nor_script.specs.declared.fault.ScriptFault.{ScriptFault}
use Rattle.nor_script.specs.Faults.{IsFault}
use Rattle.nor_script.specs.Stream.{HadText, IsSpelled}
use Rattle.norprog_check.specs.declared.fault.CheckStop.TheVariants.{Build, Script}
use Rattle.norprog_check.specs.declared.fault.StreamStop.{StreamStop}
use Rattle.norprog_check.specs.declared.fault.StreamStop.TheVariants.{Check, Device}
use Rattle.norprog_check.specs.declared.finding.Finding.{Finding}
use Rattle.norprog_check.specs.Checked.{checking, AreTaken, Checking, IsChecked}
use Rattle.norprog_check.specs.Content.{StopsRead}

-- the work of a check: its task, the content's length, what the readers of the script and of the content had ahead, and what each has
pub record Work : Type 0 where
  pub task : Task
  pub len : ℕ
  pub script : Ahead
  pub rest : Ahead
  pub content : Ahead
  pub left : Ahead

abbrev pub work : Checking → Ahead → Ahead → Work
work c script rest = record { task = c.task; len = c.len; script = script; rest = rest; content = c.content; left = c.left }

-- of a text that the script's reader had ahead this is found
abbrev pub IsFound : Work → Finding → Type 0
IsFound w found = HadText w.script w.rest (λ text. IsChecked (checking w.task w.len w.content w.left) text found)

-- why nothing is found, the first of these: the inputs are refused; the text has this fault, or its reader failed (`Unread`); the content
-- isn't read as a whole, where its reader failed if that is told (`Unheld`). Or memory ran out
pub data Unchecked (w : Work) (Unread Unheld : Type 0) : StreamStop → Type 0 where
  Refused : (why : BuildFault) → RefusesInputs w.task w.len why → Unchecked w Unread Unheld (Check (Build why))
  NoScript : (why : ScriptFault) → AreTaken w.task w.len → HadText w.script w.rest (λ text. IsFault text why) → Unchecked w Unread Unheld (Check (Script why))
  BadReading : (failed : Failed) → AreTaken w.task w.len → Unread → Unchecked w Unread Unheld (Device failed)
  NoContent : (why : BuildFault) → AreTaken w.task w.len → HadText w.script w.rest IsSpelled → StopsRead w.len w.content w.left why
      → (why ≡ fault.Read → Unheld) → Unchecked w Unread Unheld (Check (Build why))
  NoMemory : AreTaken w.task w.len → Unchecked w Unread Unheld (Check (Build fault.Memory))
