-- Rain totals as definitions: what one call answers and leaves, and the answers of its parts.
pub mod Counting
pub mod Framing
