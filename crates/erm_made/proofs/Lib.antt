pub mod Balance
pub mod Counted
pub mod Newer
pub mod Told
pub mod Turns
pub mod Walks
