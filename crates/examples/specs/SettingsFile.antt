-- A file of settings.
pub mod Read
pub mod Settings
