pub mod FaultLemmas
pub mod LayoutLemmas
pub mod TargetLemmas
pub mod ChipLemmas
pub mod OneLemmas
pub mod PageLemmas
