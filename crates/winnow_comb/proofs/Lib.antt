pub mod AltLemmas
pub mod ChoiceLemmas
