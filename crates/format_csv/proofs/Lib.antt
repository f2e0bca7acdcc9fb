pub mod Answered
pub mod One
pub mod Reading
pub mod Tables
