pub mod Times
pub mod Busy
pub mod UnitTimes
pub mod Bus
pub mod Timing
pub mod Text
pub mod Worked
pub mod Law
