pub mod Disk
pub mod Files
pub mod Guards
pub mod Replaced
pub mod Terminal
pub mod Trace
