pub mod Errands
pub mod Shown
pub mod Stays
