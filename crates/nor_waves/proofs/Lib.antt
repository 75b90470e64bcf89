mod DrawLemmas
mod TextLemmas
