-- A carriage return and a line feed.
pub mod Inversion
