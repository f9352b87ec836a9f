pub mod Commits
pub mod Cut
pub mod Lines
pub mod Snapshots
pub mod Starved
pub mod Unsealed
pub mod Whole
