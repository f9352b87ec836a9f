pub mod Calls
pub mod DiskNotes
pub mod Picks
pub mod Streams
pub mod Syncs
