-- The definitions of crate `encode`.
pub mod Asked
pub mod Encoded
