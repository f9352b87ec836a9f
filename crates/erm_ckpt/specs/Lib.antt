pub mod Checkpoint
pub mod Slots
pub mod Reading
pub mod Recovered
pub mod States
