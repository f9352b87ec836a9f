pub mod Full
pub mod Going
pub mod Owing
pub mod Safe
pub mod Starved
pub mod Told
pub mod Waits
