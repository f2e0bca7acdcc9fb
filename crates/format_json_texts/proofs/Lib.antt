pub mod Coefficients
pub mod Copied
pub mod EqualDecimals
pub mod Going
pub mod Named
pub mod Powers
pub mod Scaled
pub mod Tens
