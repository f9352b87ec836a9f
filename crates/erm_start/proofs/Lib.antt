pub mod Zeros
pub mod First
pub mod Opened
