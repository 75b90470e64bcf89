mod LaneLemmas
mod ChunkLemmas
mod SpellLemmas
mod HeadLemmas
mod FrameLemmas
