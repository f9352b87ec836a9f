pub mod Few
pub mod Good
pub mod Logged
