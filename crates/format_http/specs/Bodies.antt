-- How long the bodies of messages are.
pub mod Codings
pub mod Dues
pub mod Fields
pub mod Framing
pub mod Lengths
pub mod Lists
pub mod Refusals
