pub mod View
pub mod Legal
pub mod Takes
pub mod Window
pub mod Plan
