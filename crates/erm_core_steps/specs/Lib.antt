pub mod Claiming
pub mod Ends
pub mod Finishes
pub mod Keeping
pub mod Pinned
pub mod Reads
pub mod Settles
pub mod Steps
