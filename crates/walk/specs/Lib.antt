-- The definitions of crate `walk`.
pub mod Walking
pub mod Lanes
pub mod Asked
