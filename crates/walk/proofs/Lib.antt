-- The laws of crate `walk`.
pub mod Fitting
pub mod LanesLaws
pub mod Loop
pub mod Packed
pub mod Pasting
pub mod QuickLaws
pub mod Reach
