pub mod Orders
pub mod Stamps
pub mod Told
