pub mod Breaking
pub mod Dropped
pub mod Due
pub mod Fronts
pub mod Logs
pub mod Told
pub mod Waits
