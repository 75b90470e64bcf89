-- Which exchange with the device ended the work on its chip (this project's).
use Rattle.std.specs.Prelude.{Option, None, Result, Ok, Err}
use Rattle.nor_serprog.specs.declared.fault.Fault.{Fault}
use Rattle.norprog_device.specs.Blame.{fault_of_greeting}
use Rattle.norprog_device.specs.FailureBlame.{fault_of_failure}
use Rattle.norprog_flash.specs.declared.ending.Ending.{Ending}
use Rattle.norprog_flash.specs.declared.ending.Ending.TheVariants.{Planned, Compared, Done, Failed}
use Rattle.norprog_flash.specs.declared.ending.Unflashed.{Unflashed}
use Rattle.norprog_flash.specs.declared.ending.Unflashed.TheVariants.{Refused, Device, Unlike, Closed}
use Rattle.norprog_read.specs.Blame.{fault_of_unlike}

-- how the exchange ended early for which a step isn't done, if one did
abbrev pub fault_of_ending : Ending → Option Fault
fault_of_ending Planned = None
fault_of_ending (Compared comparison) = None
fault_of_ending (Done transactions) = None
fault_of_ending (Failed step why) = fault_of_failure why

-- how the exchange did for which work isn't begun
abbrev pub fault_of_stop : Unflashed → Option Fault
fault_of_stop (Refused why) = None
fault_of_stop (Device why) = fault_of_greeting why
fault_of_stop (Unlike why) = fault_of_unlike why
fault_of_stop (Closed status) = None

-- one of these
abbrev pub fault_in : Result Ending Unflashed → Option Fault
fault_in (Ok ending) = fault_of_ending ending
fault_in (Err why) = fault_of_stop why
