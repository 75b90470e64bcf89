pub mod Halt
pub mod Play
pub mod Turns
pub mod Numbered
pub mod Asks
pub mod Fed
