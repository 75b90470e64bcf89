mod BusyLemmas
mod ReadLemmas
mod StepsLemmas
mod StreamLemmas
