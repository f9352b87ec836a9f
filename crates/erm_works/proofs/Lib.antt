pub mod Closings
pub mod Cuts
pub mod Merging
pub mod Moves
pub mod Places
pub mod Runs
pub mod Sessions
