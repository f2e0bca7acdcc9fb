-- Lemmas by which callers take a definition apart.
pub mod Adapters
pub mod Choices
pub mod Functions
pub mod Outcomes
pub mod Repeats
pub mod Searches
pub mod Sequences
pub mod Takes
pub mod Tokens
pub mod Turns
