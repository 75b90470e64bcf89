-- A script's fault as one of a check: out of memory is that of a build.
use Rattle.nor_job.specs.declared.fault.BuildFault.TheVariants as fault
use Rattle.nor_script.specs.declared.fault.ReadFault.{ReadFault}
use Rattle.nor_script.specs.declared.fault.ReadFault.TheVariants as read
use Rattle.nor_script.specs.declared.fault.ScriptFault.{ScriptFault}
use Rattle.nor_script.specs.declared.fault.ScriptFault.TheVariants as script
use Rattle.norprog_check.specs.declared.fault.CheckStop.{CheckStop}
use Rattle.norprog_check.specs.declared.fault.CheckStop.TheVariants.{Build, Script}
use Rattle.norprog_check.specs.declared.fault.StreamStop.{StreamStop}
use Rattle.norprog_check.specs.declared.fault.StreamStop.TheVariants.{Check, Device}

abbrev pub lifted_script : ScriptFault → CheckStop
lifted_script script.Memory = Build fault.Memory
lifted_script why = Script why

-- the same of a reading of a script
abbrev pub lifted_reading : ReadFault → StreamStop
lifted_reading (read.Script why) = Check (lifted_script why)
lifted_reading (read.Device failed) = Device failed
