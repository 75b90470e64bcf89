-- Which blocks are erased, and that no script erases less, in the order of reading.
pub mod Best
pub mod Erasing
pub mod Reached
pub mod Needed
pub mod Least
pub mod Area
pub mod Agree
