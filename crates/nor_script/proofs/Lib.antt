mod PlaceLemmas
mod BlankLemmas
pub mod HexLemmas
mod VerifyLemmas
mod PairLemmas
mod LineLemmas
pub mod ReadLemmas
mod SliceLemmas
pub mod StreamLaws
pub mod TextLaws
mod FaultlessLemmas
mod ReaderLemmas
