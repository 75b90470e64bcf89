pub mod Runs
pub mod Tiling
mod Steps
mod PageUnits
mod Planning
mod TileLemmas
pub mod PlanLemmas
mod LaneLemmas
mod ChunkLemmas
mod QuietLemmas
