mod Task
pub mod Units
pub mod Erased
mod Spelling
mod Runs
mod Rereads
mod Small
mod Fewest
