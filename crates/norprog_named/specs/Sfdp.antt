-- How the work of `sfdp` ends (this project's).
use Rattle.std.specs.Prelude.{List, ℕ, Result, Ok, Err}
use Rattle.nor_base.specs.Parameters.{Parameters}
use Rattle.norprog_common.specs.Chip.{origin_of}
use Rattle.norprog_common.specs.Setup.{IsKnown, RefusesChipOf, setup_task}
use Rattle.norprog_common.specs.declared.faults.Refusal.{Refusal}
use Rattle.norprog_common.specs.declared.setup.Setup.{Setup}
use Rattle.norprog_files.specs.Files.{Event, StopsOpening}
use Rattle.norprog_named.specs.Job.{ReadsTables, origin_files}

-- how the work of `sfdp` ends, and what was done with files by then
pub data EndsSfdp (setup : Setup) : List Event → Result Parameters Refusal → Type 0 where
  -- the file of the tables was read, if there is one, and the chip has this meaning
  Means : (tables : List ℕ) (log : List Event) (m : Parameters) → ReadsTables (origin_of setup.chip) tables log → IsKnown (setup_task setup tables) m
      → EndsSfdp setup log (Ok m)
  -- that file can't be read
  NoInput : (log : List Event) (why : Refusal) → StopsOpening (origin_files (origin_of setup.chip)) log why → EndsSfdp setup log (Err why)
  -- the options contradict one another, or the tables are refused
  NoChip : (tables : List ℕ) (log : List Event) (why : Refusal) → ReadsTables (origin_of setup.chip) tables log → RefusesChipOf (setup_task setup tables) why
      → EndsSfdp setup log (Err why)
