-- How `read` ends (this project's).
use Rattle.std.specs.Prelude.{ℕ, List, [], ◌∷◌, ◌++◌, option_map, Result, Ok, Err}
use Rattle.norprog_common.specs.Chip.{origin_of}
use Rattle.norprog_common.specs.declared.faults.FileName.TheVariants as file
use Rattle.norprog_common.specs.declared.faults.Refusal.{Refusal}
use Rattle.nor_base.specs.Wire.{Wire}
use Rattle.norprog_files.specs.Files.{Event, Denied, Denies, StopsOpening, Unwired, Wired}
use Rattle.norprog_named.specs.Job.{ReadsNamed, chip_files}
use Rattle.norprog_named.specs.Saved.{SavesIf}
use Rattle.norprog_read.specs.Opened.{HasReadOpened, StopsOpened}
use Rattle.norprog_read.specs.Request.{IsAskOf}
use Rattle.norprog_read.specs.Stops.{RefusesFile}
use Rattle.norprog_read.specs.declared.asked.Ask.{Ask}
use Rattle.norprog_read.specs.declared.asked.Reading.{Reading}
use Rattle.norprog_read.specs.declared.fault.Unread.{Unread}
use Rattle.norprog_read.specs.declared.fault.Unread.TheVariants.{Refused}
use Rattle.norprog_read.specs.declared.request.ReadRequest.{ReadRequest}

-- how the reading of the chip behind the device of this name ends
pub data EndsReading (device : List ℕ) (ask : Ask) : List Event → Result Reading Unread → Type 0 where
  -- it was read so, and the device was closed
  Read : (first last : Wire) (reading : Reading) → HasReadOpened first last ask reading
      → EndsReading device ask (Wired device first ∷ Unwired device last ∷ []) (Ok reading)
  -- the device can't be opened
  NoDevice : (why : Refusal) → Denies file.Device why → EndsReading device ask (Denied device ∷ []) (Err (Refused why))
  -- the device, the line or the chip stopped it, and the device was closed
  Stopped : (first last : Wire) (why : Unread) → StopsOpened first last ask why
      → EndsReading device ask (Wired device first ∷ Unwired device last ∷ []) (Err why)

-- what a chip gave is saved so: its tables, and then its content, each where a name is given
pub data SavesReading (r : ReadRequest) (reading : Reading) : List Event → Result (Unit {0}) Refusal → Type 0 where
  NoTables : (log : List Event) (why : Refusal) → SavesIf (option_map (λ t. t.now) r.tables) file.Tables reading.tables.items log (Err why)
      → SavesReading r reading log (Err why)
  WithTables : (tables content : List Event) (result : Result (Unit {0}) Refusal)
      → SavesIf (option_map (λ t. t.now) r.tables) file.Tables reading.tables.items tables (Ok tt)
      → SavesIf (option_map (λ t. t.now) r.out) file.Out reading.content.items content result → SavesReading r reading (tables ++ content) result

-- the tables of the chip were read, where they have a file, and this is what is asked of it
pub data Asks (r : ReadRequest) (ask : Ask) : List Event → Type 0 where
  Asked : (tables : List ℕ) (log : List Event) → ReadsNamed (option_map origin_of r.chip) tables log → IsAskOf r tables ask → Asks r ask log

-- how `read` ends, and what was done with files by then
pub data EndsRead (r : ReadRequest) : List Event → Result Reading Unread → Type 0 where
  -- the chip was read, and what it gave is in new files of the names that are given
  Kept : (ask : Ask) (tables device saved : List Event) (reading : Reading) → Asks r ask tables → EndsReading r.device.now ask device (Ok reading)
      → SavesReading r reading saved (Ok tt) → EndsRead r (tables ++ (device ++ saved)) (Ok reading)
  -- the file of the tables can't be read
  NoInput : (log : List Event) (why : Refusal) → StopsOpening (chip_files (option_map origin_of r.chip)) log why → EndsRead r log (Err (Refused why))
  -- the file of the tables or the sheet has no meaning: no device is opened
  NoMeaning : (ask : Ask) (tables : List Event) (why : Unread) → Asks r ask tables → RefusesFile ask why → EndsRead r tables (Err why)
  -- the chip isn't read: nothing is saved
  NotRead : (ask : Ask) (tables device : List Event) (why : Unread) → Asks r ask tables → EndsReading r.device.now ask device (Err why)
      → EndsRead r (tables ++ device) (Err why)
  -- it was, and what it gave can't be saved
  NotKept : (ask : Ask) (tables device saved : List Event) (reading : Reading) (why : Refusal) → Asks r ask tables
      → EndsReading r.device.now ask device (Ok reading) → SavesReading r reading saved (Err why)
      → EndsRead r (tables ++ (device ++ saved)) (Err (Refused why))
