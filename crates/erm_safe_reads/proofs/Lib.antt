pub mod Entered
pub mod Loaded
pub mod Walked
