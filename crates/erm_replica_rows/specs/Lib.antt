pub mod Keeping
pub mod Moving
pub mod Reading
pub mod Replica
pub mod Seeing
