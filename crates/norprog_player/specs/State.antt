-- What is told beside an ending, and its status (this project's).
use Rattle.std.specs.Prelude.{ℕ, Bool, false, if◌then◌else◌, List, [], codes}
use Rattle.norprog_common.specs.Lines.{program_line}
use Rattle.norprog_device.specs.FailureBlame.{is_sent}
use Rattle.norprog_player.specs.declared.ending.Ending.{Ending}
use Rattle.norprog_player.specs.declared.ending.Ending.TheVariants.{Done, Wrong as GoesWrong, No, Unlike, Failed}

-- steps were sent, and not all of them are known to be done
abbrev pub is_partial : Ending → Bool
is_partial (Done transactions blank) = false
is_partial (GoesWrong step why) = false
is_partial (No step why) = false
is_partial (Unlike why) = false
is_partial (Failed step why) = is_sent step why

-- what is written then
abbrev pub state_line : List ℕ
state_line = program_line (codes "the chip is half done. Don't build the old HEX again: what must be on the chip is what `norprog run --out want.bin` of this script leaves. See: norprog explain the chip may hold")

abbrev pub state_told : Ending → List ℕ
state_told ending = if is_partial ending then state_line else []

-- 0 where all was done, 3 where the chip may hold a part of it, else 1
abbrev pub status_of : Ending → ℕ
status_of (Done transactions blank) = 0
status_of (GoesWrong step why) = 1
status_of (No step why) = 1
status_of (Unlike why) = 1
status_of (Failed step why) = if is_sent step why then 3 else 1
