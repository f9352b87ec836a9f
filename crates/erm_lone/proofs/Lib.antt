pub mod Leaves
pub mod Later
pub mod Meets
pub mod Moves
pub mod Saving
pub mod Watching
