mod Alike
pub mod Depth
pub mod Frames
pub mod Levels
pub mod Places
pub mod Reached
pub mod Shapes
pub mod TableValues
pub mod Values
pub mod Walks
pub mod ZeroRows
pub mod Zeros
