-- The definitions of crate `report`.
pub mod Line
