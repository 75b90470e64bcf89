-- The content window after window, its target and the text of its work, in the order of reading.
pub mod Targets
pub mod Stretches
pub mod Joined
pub mod Places
pub mod Windows
pub mod Plans
