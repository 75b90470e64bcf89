-- That no script has fewer programs, in the order of reading.
pub mod Relates
pub mod Touched
pub mod Rising
pub mod Few
pub mod Blocks
