-- The definitions of crate `decode`.
pub mod Decoded
pub mod Asked
