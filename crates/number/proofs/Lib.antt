-- The proofs of crate `number` that belong to no one function.
pub mod Laws
mod Reading
