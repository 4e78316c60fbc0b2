-- What the contracts of the public functions promise together: the proofs.
pub mod Hosts
pub mod Months
pub mod Pictures
pub mod Stores
pub mod Strict
pub mod Words
pub mod OneToOne
pub mod Determined
