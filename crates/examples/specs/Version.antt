-- Versions.
pub mod Read
pub mod Version
