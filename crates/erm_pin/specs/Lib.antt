pub mod Pins
pub mod Rows
pub mod Took
