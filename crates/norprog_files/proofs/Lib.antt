pub mod FilesLemmas
mod DeniesLemmas
mod GuardsLemmas
mod TerminalLemmas
mod TraceLemmas
mod QuestionLemmas
