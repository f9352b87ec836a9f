pub mod Deciding
pub mod Filling
pub mod Gathering
pub mod Clearing
pub mod Turning
pub mod Took
pub mod TookWords
pub mod Between
