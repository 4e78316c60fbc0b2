-- Laws of a frame's cells and sums, of what a decode to four channels writes, and of one call.
pub mod Sums
pub mod Decoded
pub mod Frames
pub mod Calls
