pub mod Wires
pub mod Ticks
pub mod Waves
pub mod Drawing
pub mod Worked
