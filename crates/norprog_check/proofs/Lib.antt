pub mod CheckLemmas
pub mod FaultLemmas
pub mod StreamLemmas
pub mod LineLemmas
mod ReadingLemmas
