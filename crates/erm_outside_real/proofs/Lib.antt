pub mod Lasting
pub mod Known
