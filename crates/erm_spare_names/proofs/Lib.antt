pub mod Seats
pub mod Spare
