pub mod AtOnce
pub mod Ending
