pub mod Replay
pub mod Checked
pub mod Played
pub mod Read
pub mod Shown
pub mod Laws
