pub mod Bytes
pub mod Tiles
