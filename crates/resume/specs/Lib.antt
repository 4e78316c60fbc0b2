-- The definitions of crate `resume`.
pub mod Asked
pub mod Run
pub mod State
