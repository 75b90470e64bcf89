pub mod Words
pub mod Line
pub mod Log
