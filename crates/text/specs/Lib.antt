-- The definitions of crate `text`.
pub mod Text
