mod OutlineLemmas
mod DrawnLemmas
mod SumsLemmas
