pub mod KindLemmas
pub mod PlaceLemmas
pub mod ListLemmas
pub mod WindowLemmas
pub mod PageLemmas
