-- Document 01 as definitions, one file a section: what an auditor reads first.
pub mod Bytes
pub mod Chunk
pub mod Reading
pub mod Decode
pub mod Trace
pub mod Document
pub mod Encode
pub mod Step
pub mod Record
pub mod Damage
pub mod Strict
pub mod Figures
pub mod Case
pub mod Cases
