-- What the values of a command line of `read`, `play` and `flash` ask for, and what is said of it (this project's).
use Rattle.std.specs.Prelude.{◌≡◌, ℕ, false, List, [], Option, Result, Ok, Err}
use Rattle.norprog_common.specs.Lines.{printed, status_after}
use Rattle.norprog_common.specs.Told.{Output, Says, Tells, between}
use Rattle.norprog_common.specs.declared.faults.Refusal.TheVariants.{Usage}
use Rattle.norprog_common.specs.declared.given.FlashArgs.{FlashArgs}
use Rattle.norprog_common.specs.declared.given.PlayArgs.{PlayArgs}
use Rattle.norprog_common.specs.declared.given.ReadArgs.{ReadArgs}
use Rattle.norprog_device.specs.Line.{device_line}
use Rattle.norprog_files.specs.Files.{Event}
use Rattle.norprog_flash.specs.Answer.{family_of, state_told}
use Rattle.norprog_flash.specs.Begun.{Printed, printed as on_screen}
use Rattle.norprog_flash.specs.Line as flash_line
use Rattle.norprog_flash.specs.Request as request
use Rattle.norprog_flash.specs.declared.ending.Ending as flash
use Rattle.norprog_flash.specs.declared.ending.Unflashed.{Unflashed}
use Rattle.norprog_flash.specs.declared.ending.Unflashed.TheVariants as unflashed
use Rattle.norprog_named.specs.Asked.{EndsAs}
use Rattle.norprog_named.specs.Flash.{EndsFlash}
use Rattle.norprog_named.specs.Play.{EndsPlay}
use Rattle.norprog_named.specs.Read.{EndsRead}
use Rattle.norprog_player.specs.Request as play
use Rattle.norprog_player.specs.Line.{ending_line}
use Rattle.norprog_player.specs.State as play_state
use Rattle.norprog_player.specs.declared.ending.Ending.{Ending}
use Rattle.norprog_player.specs.declared.unplayed.Unplayed.{Unplayed}
use Rattle.norprog_player.specs.declared.unplayed.Unplayed.TheVariants as unplayed
use Rattle.norprog_read.specs.Line.{reading_text, unlike_line}
use Rattle.norprog_read.specs.Request as read
use Rattle.norprog_read.specs.declared.asked.Reading.{Reading}
use Rattle.norprog_read.specs.declared.fault.Unread.{Unread}
use Rattle.norprog_read.specs.declared.fault.Unread.TheVariants.{Device, Refused, Unlike}

abbrev pub EndsReadAsked : ReadArgs → List Event → Result Reading Unread → Type 0
EndsReadAsked given = EndsAs (Err (Refused Usage)) (read.is_well_formed given ≡ false) (read.AsksFor given) EndsRead

abbrev pub EndsPlayAsked : Type 0 → PlayArgs → List Event → Result Ending Unplayed → Type 0
EndsPlayAsked Unread given = EndsAs (Err (unplayed.Refused Usage)) (play.is_well_formed given ≡ false) (play.AsksFor given) (EndsPlay Unread)

-- at usage of `flash` nothing is printed
abbrev pub EndsFlashAsked : FlashArgs → Printed → List Event → Result flash.Ending Unflashed → Type 0
EndsFlashAsked given out =
    EndsAs (Err (unflashed.Refused Usage)) ((request.is_well_formed given ≡ false) × (out.after ≡ out.before)) (request.AsksFor given)
    (λ r. EndsFlash r out)

-- nothing is printed, a line is told, and this is the status
abbrev pub TellsLine : List ℕ → ℕ → Output → Output → ℕ → Type 0
TellsLine line own out err status = (status ≡ own) × (out.after ≡ out.before) × Tells err line

-- what is said of a reading, and the status: its lines, or why the chip isn't read
abbrev pub SaysRead : Output → Output → ℕ → Result Reading Unread → Type 0
SaysRead out err status (Ok reading) = Says [] (reading_text reading) 0 out err status
SaysRead out err status (Err (Unlike why)) = Says [] (unlike_line why) 1 out err status
SaysRead out err status (Err (Device why)) = TellsLine (device_line why) 1 out err status
SaysRead out err status (Err (Refused why)) = TellsLine (printed why) (status_after why) out err status

-- what is said of a play, and the status: how it ended, after the chip's state where it may hold a part of the work; or why it wasn't begun
abbrev pub SaysPlay : Output → Output → ℕ → Result Ending Unplayed → Type 0
SaysPlay out err status (Ok ending) = Says (play_state.state_told ending) (ending_line ending) (play_state.status_of ending) out err status
SaysPlay out err status (Err (unplayed.Device why)) = TellsLine (device_line why) 1 out err status
SaysPlay out err status (Err (unplayed.Refused why)) = TellsLine (printed why) (status_after why) out err status

-- what is said of work on a chip, and the status: how it ended, after how to go on; or why it wasn't begun
abbrev pub SaysFlash : FlashArgs → Output → Output → ℕ → Result flash.Ending Unflashed → Type 0
SaysFlash given out err status (Ok ending) = Says (state_told ending given) (flash_line.ending_line ending) (flash_line.status_of ending) out err status
SaysFlash given out err status (Err (unflashed.Refused why)) = TellsLine (printed why) (status_after why) out err status
SaysFlash given out err status (Err (unflashed.Device why)) = TellsLine (device_line why) 1 out err status
SaysFlash given out err status (Err (unflashed.Unlike why)) = Says [] (unlike_line why) 1 out err status
SaysFlash given out err status (Err (unflashed.Closed bits)) = Says [] (flash_line.closed_line (family_of given) bits) 1 out err status

-- such work ended so, the lines of its plan were printed by then, and that is said
pub record ReportsFlash (given : FlashArgs) (out err : Output) (status : ℕ) (log : List Event) : Type 0 where
  pub answer : Result flash.Ending Unflashed
  pub middle : Option (List ℕ)
  pub ends : EndsFlashAsked given (on_screen out.before middle) log answer
  pub says : SaysFlash given (between middle out.after out.failures out.failed) err status answer

-- there is such an answer, and that is said
abbrev pub Reported : {A : Type 0} → (A → Type 0) → (A → Type 0) → Type 0
Reported {A} Is Says = (answer : A) × Is answer × Says answer
