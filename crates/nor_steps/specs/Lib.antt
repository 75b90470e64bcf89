pub mod Stretch
pub mod Faults
pub mod Lines
pub mod Tally
pub mod Writing
pub mod Units
pub mod Work
pub mod Texts
