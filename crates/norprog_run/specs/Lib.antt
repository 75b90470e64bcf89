pub mod Verdict
pub mod Values
pub mod Request
pub mod Play
pub mod Kind
pub mod Refusals
pub mod Steps
pub mod Stream
