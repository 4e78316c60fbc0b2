-- What the contracts of the public functions promise together: the statements.
pub mod Determined
pub mod Hosts
pub mod Months
pub mod Pictures
pub mod Stores
pub mod Strict
pub mod Words
