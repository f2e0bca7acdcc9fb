pub mod Formulas
pub mod Items
pub mod Values
