pub mod Failures
pub mod Values
