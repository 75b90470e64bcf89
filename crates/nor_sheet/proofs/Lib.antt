mod Digits
mod WordLemmas
mod PowerLemmas
mod FormLemmas
mod OpcodeLemmas
mod MeaningLemmas
pub mod SheetLemmas
mod ReadLemmas
pub mod ApartLemmas
