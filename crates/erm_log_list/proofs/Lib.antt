pub mod Chain
pub mod Commits
pub mod Later
pub mod Made
pub mod Meets
pub mod Newest
pub mod Ranges
