pub mod Steps
pub mod Drawing
pub mod Writing
pub mod Spelled
pub mod Seats
pub mod Made
