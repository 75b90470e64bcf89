pub mod Chips
pub mod Patches
