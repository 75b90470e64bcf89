mod LineLemmas
mod NumberLemmas
mod ReadLemmas
mod StepLemmas
mod TextLemmas
