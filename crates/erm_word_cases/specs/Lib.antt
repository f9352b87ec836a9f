pub mod Lasting
pub mod Skew
