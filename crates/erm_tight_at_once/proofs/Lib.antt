pub mod Bounded
pub mod Called
pub mod Marked
pub mod Walked
pub mod Windows
