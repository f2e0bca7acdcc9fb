pub mod Heads
pub mod StatusLines
pub mod Texts
pub mod Values
