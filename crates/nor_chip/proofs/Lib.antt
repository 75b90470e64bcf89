mod PlaceLemmas
mod KernelLemmas
pub mod RangeLemmas
pub mod TakeLemmas
mod EraseLemmas
pub mod BusyLemmas
