pub mod Region
pub mod Cause
pub mod Number
pub mod Fields
pub mod Line
pub mod Text
pub mod Chosen
