pub mod Chains
pub mod Opened
pub mod Reading
pub mod Recovering
pub mod Replaced
pub mod SetRows
pub mod SlotFiles
pub mod Waits
