-- Parsers of bits, run on the bits of bytes.
pub mod Inversion
pub mod Laws
