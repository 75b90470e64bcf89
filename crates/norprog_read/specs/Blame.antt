-- Which exchange with the device ended a reading of its chip (this project's).
use Rattle.std.specs.Prelude.{Option, Some, None, Result, Ok, Err}
use Rattle.nor_serprog.specs.declared.fault.Fault.{Fault}
use Rattle.norprog_device.specs.Blame.{fault_of_greeting}
use Rattle.norprog_read.specs.declared.fault.Unlike.{Unlike as Unlikeness}
use Rattle.norprog_read.specs.declared.fault.Unlike.TheVariants.{Asking}
use Rattle.norprog_read.specs.declared.fault.Unread.{Unread}
use Rattle.norprog_read.specs.declared.fault.Unread.TheVariants.{Refused, Device, Unlike}

-- how the exchange ended early for which the chip didn't say or give what it has to, if one did
abbrev pub fault_of_unlike : Unlikeness → Option Fault
fault_of_unlike (Asking why) = Some why
fault_of_unlike other = None

-- how the exchange did for which it isn't read
abbrev pub fault_of_stop : Unread → Option Fault
fault_of_stop (Refused why) = None
fault_of_stop (Device why) = fault_of_greeting why
fault_of_stop (Unlike why) = fault_of_unlike why

-- how it did in a reading that was done, or stopped so
abbrev pub fault_in : {T : Type 0} → Result T Unread → Option Fault
fault_in (Ok x) = None
fault_in (Err why) = fault_of_stop why
