pub mod Acceptance
mod ChipsAccepted
mod PatchLemmas
