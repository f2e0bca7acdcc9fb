-- Colors.
pub mod Color
pub mod Read
