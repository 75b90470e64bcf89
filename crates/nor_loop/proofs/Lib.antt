pub mod ReadLemmas
pub mod FollowLemmas
pub mod LoopLemmas
pub mod BreakLemmas
pub mod WorkedValues
pub mod DeviceLemmas
pub mod SomeLemmas
pub mod ShownLemmas
pub mod SingleLemmas
pub mod WireLemmas
pub mod QuadLemmas
pub mod EnterLemmas
pub mod FourLemmas
mod LatchLemmas
