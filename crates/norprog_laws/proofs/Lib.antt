mod ReplayLemmas
pub mod BuiltLemmas
pub mod PlayLemmas
mod ShownLemmas
mod LineLemmas
mod SpacedLemmas
mod NumberLemmas
mod RunLemmas
mod PrintedLemmas
mod TextLemmas
mod MeaningLemmas
