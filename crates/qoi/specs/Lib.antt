-- The definitions of crate `qoi`.
pub mod Hosted
