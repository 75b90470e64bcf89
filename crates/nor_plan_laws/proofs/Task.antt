-- What an instruction, an operation and a unit do to a chip, up to all of the work, in the order of reading.
pub mod Steps
pub mod Taken
pub mod Laid
pub mod Reading
pub mod Ops
pub mod Lowered
pub mod Made
pub mod Whole
