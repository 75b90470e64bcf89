-- A lower crate's fault as one of a build: out of memory is one of the build itself.
use Rattle.nor_hex.specs.declared.fault.HexFault.{HexFault}
use Rattle.nor_hex.specs.declared.fault.HexFault.TheVariants as hex
use Rattle.nor_layout.specs.declared.fault.LayoutFault.{LayoutFault}
use Rattle.nor_layout.specs.declared.fault.LayoutFault.TheVariants as layout
use Rattle.nor_job.specs.declared.fault.BuildFault.{BuildFault}
use Rattle.nor_job.specs.declared.fault.BuildFault.TheVariants.{Memory, Hex, Layout}

abbrev pub lifted_hex : HexFault → BuildFault
lifted_hex hex.Memory = Memory
lifted_hex fault = Hex fault

abbrev pub lifted_layout : LayoutFault → BuildFault
lifted_layout layout.Memory = Memory
lifted_layout fault = Layout fault
