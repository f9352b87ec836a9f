pub mod Runs
pub mod Staying
