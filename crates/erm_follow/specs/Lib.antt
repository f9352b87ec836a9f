pub mod Follow
pub mod Given
pub mod Waiting
