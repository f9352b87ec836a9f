pub mod Blocks
pub mod Turns
pub mod Over
pub mod Pinned
