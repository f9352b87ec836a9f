pub mod Commits
pub mod Invariant
