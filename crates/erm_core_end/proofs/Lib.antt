pub mod Counted
pub mod Sealed
pub mod Shown
pub mod Excluded
