pub mod Kept
pub mod Same
pub mod Stays
pub mod Staying
