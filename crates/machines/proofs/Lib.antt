-- Lemmas.
pub mod Bytes
pub mod Extents
pub mod Results
pub mod Stacks
