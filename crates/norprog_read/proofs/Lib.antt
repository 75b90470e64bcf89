mod WayLemmas
mod ChipLemmas
mod CameLemmas
mod PartLemmas
mod LawLemmas
pub mod ReadLemmas
mod SentLemmas
mod EndLemmas
mod HarmlessLemmas
mod LineLemmas
