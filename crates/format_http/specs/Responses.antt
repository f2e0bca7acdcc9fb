-- Heads of responses.
pub mod Head
pub mod Parts
pub mod StatusLine
