pub mod Lifted
pub mod Content
pub mod Checked
pub mod Line
pub mod Readings
pub mod Stream
