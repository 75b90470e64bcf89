pub mod Laws
pub mod Least
pub mod Exists
pub mod Able
pub mod Runs
pub mod Small
pub mod Fewest
