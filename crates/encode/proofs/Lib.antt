-- The laws of crate `encode`.
pub mod Colours
pub mod Framing
pub mod Loop
pub mod Order
pub mod Pens
