pub mod UniformAccepted
mod TransferLemmas
mod KindLemmas
pub mod DeviceLaws
pub mod SymbolLaws
pub mod SampledLaws
pub mod RegionLaws
pub mod ArrayLaws
pub mod FaultLaws
pub mod ListLaws
pub mod OutcomeLaws
pub mod BitLaws
pub mod StretchLaws
