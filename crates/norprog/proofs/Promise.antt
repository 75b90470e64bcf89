-- From a job that was done to what a build and a plan promise of its inputs, in the order of reading.
pub mod Steps
pub mod Bytes
pub mod Image
pub mod OpBytes
pub mod Counts
pub mod Few
pub mod Filled
pub mod Build
pub mod Plan
pub mod Made
