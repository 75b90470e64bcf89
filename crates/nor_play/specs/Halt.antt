-- Why a step stops, and the faults that tell it.
use Rattle.std.specs.Prelude.{ℕ}
use Rattle.nor_base.specs.declared.wrong.PortFault.{PortFault}
use Rattle.nor_base.specs.declared.wrong.PortFault.TheVariants as port
use Rattle.nor_play.specs.declared.fault.Halt.{Halt}
use Rattle.nor_play.specs.declared.fault.Halt.TheVariants as halt
use Rattle.nor_play.specs.declared.fault.PlayFault.{PlayFault}
use Rattle.nor_play.specs.declared.fault.PlayFault.TheVariants as fault

abbrev pub halt_of : PortFault → Halt
halt_of (port.Wrong why) = halt.Wrong why
halt_of port.Failed = halt.Failed

-- with the number of the step
abbrev pub play_fault : Halt → ℕ → PlayFault
play_fault (halt.Wrong why) step = fault.Wrong step why
play_fault halt.Failed step = fault.PortFailed step
play_fault halt.Memory step = fault.Memory
