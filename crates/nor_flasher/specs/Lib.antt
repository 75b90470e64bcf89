pub mod Apart
pub mod Laws
pub mod Progress
pub mod Packed
pub mod Within
