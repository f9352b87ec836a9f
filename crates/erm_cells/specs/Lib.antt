pub mod Calls
pub mod Hands
pub mod Heads
pub mod Placed
pub mod Reads
pub mod Rows
pub mod Spare
pub mod Took
