pub mod Covered
pub mod Flusher
pub mod Logs
pub mod Saves
pub mod Stands
pub mod Turns
pub mod Waits
