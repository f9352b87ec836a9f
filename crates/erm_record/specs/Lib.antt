pub mod Record
pub mod Stored
