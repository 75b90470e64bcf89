pub mod Laws
pub mod Worked
pub mod Stops
pub mod Planning
pub mod Seen
pub mod Spelling
