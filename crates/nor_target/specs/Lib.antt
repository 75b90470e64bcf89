pub mod Ignored
pub mod Runs
pub mod Shares
