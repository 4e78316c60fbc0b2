-- The definitions of crate `strict`.
pub mod Checked
pub mod Asked
