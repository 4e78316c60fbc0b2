-- Laws that the proofs of crate `strict` share.
pub mod Loop
pub mod Arms
