pub mod Opened
pub mod Stay
