-- The laws of crate `chunk`.
pub mod Ends
