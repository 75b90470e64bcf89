pub mod Bits
pub mod Headers
pub mod Tables
pub mod Basic
pub mod Kinds
pub mod SectorMap
pub mod Opcodes
pub mod Reading
