mod LimitLaws
pub mod PollLaws
mod TableLaws
pub mod ScriptLaws
pub mod BlockLaws
mod SymbolLaws
pub mod EffectLaws
pub mod ProgramLaws
mod GivenLaws
mod RunLaws
mod TargetLaws
pub mod BoundedLaws
mod EventLaws
mod BitLemmas
mod SpelledLaws
mod SymbolLemmas
mod SingleLaws
pub mod VerifyLaws
