pub mod PartLemmas
mod LineLemmas
pub mod CarriedLemmas
pub mod DoingLemmas
