pub mod Flushes
pub mod Progress
pub mod Told
pub mod Over
pub mod Exact
pub mod Images
