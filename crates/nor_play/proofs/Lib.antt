mod SampledLemmas
mod StepLemmas
mod PollLemmas
pub mod PlayLemmas
pub mod AskLemmas
pub mod FedLaws
