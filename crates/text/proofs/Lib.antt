-- Laws that the proofs of crate `text` share.
pub mod Laws
pub mod Utf8
