mod CountLemmas
mod PartLemmas
mod RunLemmas
mod ShareLemmas
