-- Which pages and blocks a chip's units are, in the order of reading.
pub mod Ranges
pub mod Pages
pub mod Walk
pub mod Wider
