-- What is seen in a run of the work, in the order of reading.
pub mod Shown
pub mod Chosen
pub mod Lists
pub mod Counted
pub mod Exact
pub mod Once
pub mod Totals
