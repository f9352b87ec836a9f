pub mod Logs
pub mod Saves
pub mod Stands
