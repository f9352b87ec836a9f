pub mod Kept
pub mod Turned
pub mod Watching
