mod NumberLemmas
mod LineLemmas
mod HeldLemmas
pub mod TellsLemmas
pub mod ReadingLemmas
pub mod RulesLemmas
mod ImageLemmas
