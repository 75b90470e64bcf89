pub mod NewestLemmas
pub mod CommandLemmas
pub mod MapLemmas
pub mod IdLemmas
pub mod RegionLemmas
pub mod AcceptedLemmas
