-- Line endings.
pub mod Grammar
pub mod Inversion
