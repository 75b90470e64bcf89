-- Why a line is refused, and the fault that tells it.
use Rattle.std.specs.Prelude.{ℕ}
use Rattle.nor_layout.specs.declared.cause.Cause.{Cause}
use Rattle.nor_layout.specs.declared.cause.Cause.TheVariants.{BadLine, BadNumber, EndBeforeStart, RepeatedName, TooMany}
use Rattle.nor_layout.specs.declared.fault.LayoutFault.{LayoutFault}
use Rattle.nor_layout.specs.declared.fault.LayoutFault.TheVariants as fault

-- the cause with the number of its line
abbrev pub fault_of : Cause → ℕ → LayoutFault
fault_of BadLine line = fault.BadLine line
fault_of BadNumber line = fault.BadNumber line
fault_of EndBeforeStart line = fault.EndBeforeStart line
fault_of RepeatedName line = fault.RepeatedName line
fault_of TooMany line = fault.TooMany line
