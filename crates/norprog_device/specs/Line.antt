-- What is written of a device that can't be used (this project's).
use Rattle.std.specs.Prelude.{List, ℕ, ◌++◌, codes}
use Rattle.nor_serprog.specs.declared.fault.Fault.{Fault}
use Rattle.nor_serprog.specs.declared.fault.Fault.TheVariants as fault
use Rattle.nor_serprog.specs.declared.fault.GreetFault.{GreetFault}
use Rattle.nor_serprog.specs.declared.fault.GreetFault.TheVariants.{Command, Version, NoOperation}
use Rattle.norprog_common.specs.Lines.{program_line}
use Rattle.norprog_device.specs.declared.fault.DeviceFault.{DeviceFault}
use Rattle.norprog_device.specs.declared.fault.DeviceFault.TheVariants.{Greet, Line}

-- the word of an exchange that ended early
abbrev pub fault_word : Fault → List ℕ
fault_word fault.Read = codes "read"
fault_word fault.Write = codes "write"
fault_word fault.Silent = codes "silent"
fault_word fault.Nak = codes "nak"
fault_word fault.Differs = codes "differs"

abbrev pub greet_word : GreetFault → List ℕ
greet_word (Command at why) = fault_word why
greet_word Version = codes "version"
greet_word NoOperation = codes "operation"

-- a line that changes what goes out, unless the reader or the writer failed
abbrev pub line_word : Fault → List ℕ
line_word fault.Read = codes "read"
line_word fault.Write = codes "write"
line_word other = codes "line"

abbrev pub device_word : DeviceFault → List ℕ
device_word (Greet why) = greet_word why
device_word (Line why) = line_word why

-- `norprog: device WHY`, and LF
abbrev pub device_line : DeviceFault → List ℕ
device_line why = program_line (codes "device " ++ device_word why)
