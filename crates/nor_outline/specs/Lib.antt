pub mod Lines
pub mod Outline
pub mod Parts
pub mod Told
