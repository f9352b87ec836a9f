pub mod Recalls
pub mod Drawn
pub mod Kept
