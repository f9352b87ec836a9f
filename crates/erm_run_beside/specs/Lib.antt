pub mod Jobs
pub mod Shared
pub mod Ended
pub mod Runs
pub mod Closing
