-- The proofs of crate `header` that belong to no one function.
pub mod Laws
