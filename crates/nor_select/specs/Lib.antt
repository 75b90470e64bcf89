pub mod Coded
pub mod View
pub mod Streamed
