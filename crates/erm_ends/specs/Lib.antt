pub mod Commits
pub mod Ends
pub mod Safe
pub mod Took
