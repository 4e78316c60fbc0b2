-- The laws behind the decode.
pub mod Whole
