pub mod Block
pub mod Turns
pub mod Took
