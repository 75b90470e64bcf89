pub mod Explained
pub mod Matching
pub mod Topics
pub mod Details
