pub mod ChoiceLemmas
pub mod EscapeLemmas
pub mod FoldLemmas
pub mod ItemLemmas
pub mod ListLemmas
pub mod LongerLemmas
pub mod MarkLemmas
mod MovedRuns
pub mod OrderLemmas
pub mod PlaceLemmas
pub mod PrefixLemmas
pub mod PremiseLemmas
pub mod SliceLemmas
pub mod WordPieceLemmas
pub mod WordRuns
