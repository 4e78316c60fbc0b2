-- The definitions of crate `pixel`: refusals and their words, channel counts and colour spaces, pixels, lists of bytes.
pub mod Bytes
pub mod Colour
pub mod Packed
pub mod Refusal
pub mod Types
pub mod Words
