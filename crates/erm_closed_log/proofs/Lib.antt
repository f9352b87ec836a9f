pub mod Apart
pub mod Decided
pub mod Known
pub mod Logs
pub mod Over
pub mod Shown
