-- A month of rain totals as definitions: what its table must add up to, and calls delivered again or in any order.
pub mod Month
pub mod Delivered
