pub mod Asked
pub mod Faults
pub mod Keywords
pub mod Script
pub mod Seats
pub mod Words
