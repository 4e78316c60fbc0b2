-- The definitions of crate `number`.
pub mod Asked
pub mod Seven
