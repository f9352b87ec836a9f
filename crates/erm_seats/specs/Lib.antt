pub mod Calls
pub mod Race
pub mod Safe
pub mod Took
