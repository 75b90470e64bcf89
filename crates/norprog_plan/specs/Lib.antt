pub mod Regions
pub mod Outline
pub mod Sums
