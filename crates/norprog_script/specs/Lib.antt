pub mod Request
pub mod Tally
pub mod Written
pub mod Drawn
pub mod DrawRequest
