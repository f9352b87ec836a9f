pub mod Kinds
pub mod Needs
pub mod Parts
pub mod Rooms
