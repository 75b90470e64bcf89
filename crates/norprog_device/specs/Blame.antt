-- Which exchange with a device ended the work on it (this project's).
use Rattle.std.specs.Prelude.{Bool, true, false, Option, Some, None}
use Rattle.nor_reader.specs.declared.difference.Mismatch.{Mismatch}
use Rattle.nor_reader.specs.declared.difference.Mismatch.TheVariants as mismatch
use Rattle.nor_serprog.specs.declared.fault.Fault.{Fault}
use Rattle.nor_serprog.specs.declared.fault.Fault.TheVariants.{Write}
use Rattle.nor_serprog.specs.declared.fault.GreetFault.TheVariants.{Command, Version, NoOperation}
use Rattle.norprog_device.specs.declared.fault.DeviceFault.{DeviceFault}
use Rattle.norprog_device.specs.declared.fault.DeviceFault.TheVariants.{Greet, Line}

-- how the exchange of the handshake, or of the test of the line, ended that ended early, if one did
abbrev pub fault_of_greeting : DeviceFault → Option Fault
fault_of_greeting (Greet (Command at why)) = Some why
fault_of_greeting (Greet Version) = None
fault_of_greeting (Greet NoOperation) = None
fault_of_greeting (Line why) = Some why

-- how the exchange of a comparison with the chip did, if one did
abbrev pub fault_of_mismatch : Mismatch → Option Fault
fault_of_mismatch (mismatch.Exchange why) = Some why
fault_of_mismatch (mismatch.Differs d) = None

-- the writer failed in a request: the device would take the bytes that follow as its rest
abbrev pub is_cut : Option Fault → Bool
is_cut (Some Write) = true
is_cut other = false
