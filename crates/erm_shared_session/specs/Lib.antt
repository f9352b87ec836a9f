pub mod ReadsBack
pub mod Seen
pub mod Stands
pub mod Handing
pub mod Waits
