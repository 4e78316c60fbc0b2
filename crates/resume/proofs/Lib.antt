-- The laws behind the record's reader and writer, and of runs.
pub mod Owned
pub mod Parts
pub mod RunLaws
pub mod Slots
