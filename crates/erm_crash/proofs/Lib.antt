pub mod Moments
pub mod Stops
pub mod Opened
pub mod Flushed
pub mod Saved
pub mod Since
pub mod Stays
