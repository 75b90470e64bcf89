mod DifferenceLemmas
mod StatusBits
mod StatusLemmas
pub mod KnownLemmas
mod PieceLemmas
mod PassLemmas
mod SwitchLemmas
mod AgainLemmas
mod PastLemmas
mod TwiceLemmas
mod LawLemmas
mod TablesLemmas
pub mod HarmlessLemmas
mod ModeLemmas
mod TellingLemmas
mod CutLemmas
