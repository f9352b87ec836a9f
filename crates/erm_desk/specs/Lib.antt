pub mod Known
pub mod Turns
pub mod Desk
pub mod All
