pub mod Answered
pub mod Beyond
pub mod Cuts
pub mod Leaving
pub mod Left
pub mod Logs
pub mod Told
pub mod Whole
