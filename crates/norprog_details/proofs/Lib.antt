pub mod RowLemmas
pub mod SubjectLemmas
mod LookLemmas
