pub mod Alone
pub mod Bridged
pub mod Opened
pub mod Parts
pub mod Receipts
pub mod Saved
pub mod Sighted
pub mod Watched
