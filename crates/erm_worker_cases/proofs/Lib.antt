pub mod Opened
pub mod Within
