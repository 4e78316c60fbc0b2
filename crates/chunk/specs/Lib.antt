-- The definitions of crate `chunk`.
pub mod Found
