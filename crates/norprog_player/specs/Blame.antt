-- Which exchange with a device ended a play on it (this project's).
use Rattle.std.specs.Prelude.{Option, Some, None, Result, Ok, Err}
use Rattle.nor_serprog.specs.declared.fault.Fault.{Fault}
use Rattle.norprog_device.specs.Blame.{fault_of_greeting, fault_of_mismatch}
use Rattle.norprog_device.specs.FailureBlame.{fault_of_failure}
use Rattle.norprog_player.specs.declared.ending.Ending.{Ending}
use Rattle.norprog_player.specs.declared.ending.Ending.TheVariants.{Done, Wrong as GoesWrong, No, Unlike, Failed}
use Rattle.norprog_player.specs.declared.ending.Unlike.{Unlike as Unlikeness}
use Rattle.norprog_player.specs.declared.ending.Unlike.TheVariants as unlike
use Rattle.norprog_player.specs.declared.unplayed.Unplayed.{Unplayed}
use Rattle.norprog_player.specs.declared.unplayed.Unplayed.TheVariants.{Refused, Device}

-- how the exchange ended early in which the chip was asked before the steps, or compared, if one did
abbrev pub fault_of_unlike : Unlikeness → Option Fault
fault_of_unlike unlike.Busy = None
fault_of_unlike (unlike.Asking why) = Some why
fault_of_unlike (unlike.Status status) = None
fault_of_unlike (unlike.Registers status) = None
fault_of_unlike (unlike.Tables why) = fault_of_mismatch why
fault_of_unlike (unlike.Moved value) = None
fault_of_unlike (unlike.Content why) = fault_of_mismatch why

-- how the exchange did that ended the steps, if one did
abbrev pub fault_of_ending : Ending → Option Fault
fault_of_ending (Done transactions blank) = None
fault_of_ending (GoesWrong step why) = None
fault_of_ending (No step why) = None
fault_of_ending (Unlike why) = fault_of_unlike why
fault_of_ending (Failed step why) = fault_of_failure why

-- so of what a play returns, where it has no ending too
abbrev pub fault_in : Result Ending Unplayed → Option Fault
fault_in (Ok ending) = fault_of_ending ending
fault_in (Err (Device why)) = fault_of_greeting why
fault_in (Err (Refused why)) = None
