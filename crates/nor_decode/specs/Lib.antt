pub mod Seen
pub mod Table
