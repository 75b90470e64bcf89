mod WithinLemmas
mod ApartLemmas
mod DoableLemmas
mod LengthLemmas
mod BegunLemmas
mod StepsLemmas
mod PackedLemmas
mod OperationLemmas
