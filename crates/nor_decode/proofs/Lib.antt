pub mod NumberLemmas
mod LaneLemmas
mod ByteLemmas
mod TableLemmas
pub mod SmallLemmas
pub mod DecodedLemmas
