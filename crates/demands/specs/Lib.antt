-- The demands as definitions: what the theorems of proofs/ say.
pub mod TakeOver
pub mod Broker
pub mod Workers
pub mod Inside
pub mod Document
pub mod Strict
pub mod Flushing
pub mod Sharing
pub mod ReadBack
pub mod Streams
