pub mod Kept
pub mod Tears
pub mod Words
