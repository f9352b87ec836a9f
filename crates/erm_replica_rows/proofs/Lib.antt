pub mod Held
pub mod Keeping
pub mod Moving
pub mod Rows
pub mod Safe
pub mod Seen
pub mod Telling
