pub mod Acknowledged
pub mod Alike
pub mod Closing
pub mod Keeping
pub mod Lines
pub mod Runs
pub mod Saving
pub mod Starving
