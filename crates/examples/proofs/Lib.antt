pub mod ColorLemmas
pub mod LinesLemmas
pub mod NestedLemmas
pub mod VersionLemmas
