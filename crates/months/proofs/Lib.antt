-- A month of rain totals as theorems, and the laws behind them.
pub mod Sums
pub mod Bytes
pub mod Rooms
pub mod Refusals
pub mod First
pub mod Tables
pub mod Marks
pub mod Month
pub mod Delivered
pub mod Worked
