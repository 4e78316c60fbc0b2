-- The definitions of crate `header`.
pub mod Header
