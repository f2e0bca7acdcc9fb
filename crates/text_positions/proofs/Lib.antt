pub mod LineLemmas
pub mod PositionLemmas
