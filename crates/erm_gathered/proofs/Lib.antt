pub mod Lasting
pub mod Turns
