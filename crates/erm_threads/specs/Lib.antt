pub mod Merged
pub mod Parts
pub mod Work
