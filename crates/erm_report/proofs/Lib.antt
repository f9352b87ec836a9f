pub mod Fronts
pub mod Parts
pub mod Words
pub mod Reading
pub mod Found
