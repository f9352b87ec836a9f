pub mod Entries
pub mod Puts
pub mod Leading
pub mod Sending
pub mod Reading
pub mod Laying
pub mod Ending
