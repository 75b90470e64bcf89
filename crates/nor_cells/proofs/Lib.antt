mod TouchedLemmas
mod BesideLemmas
mod WrapLemmas
mod ComparedLemmas
mod LawLemmas
