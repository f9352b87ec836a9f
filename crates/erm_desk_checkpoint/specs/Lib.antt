pub mod Does
pub mod Kept
pub mod Turns
pub mod Checkpoints
