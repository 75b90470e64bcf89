mod RangeLemmas
mod ReasonLemmas
mod UnitLemmas
mod WalkLemmas
mod Reached
mod StretchLemmas
pub mod PlanText
