pub mod Each
pub mod Passing
pub mod Sessions
pub mod Stamps
