pub mod Images
mod Moments
mod Puts
pub mod Waits
