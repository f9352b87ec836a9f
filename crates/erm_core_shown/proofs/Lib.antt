pub mod Commits
pub mod Given
pub mod Laws
pub mod Made
pub mod Only
pub mod Parts
