pub mod LineLemmas
pub mod StreamLemmas
pub mod OpLemmas
pub mod TallyLemmas
mod UnitLemmas
pub mod Placed
pub mod TextLemmas
pub mod WindowLemmas
mod KeptLemmas
