pub mod Attempts
pub mod Objects
pub mod Tasks
