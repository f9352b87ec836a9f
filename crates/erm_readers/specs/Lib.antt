pub mod Calls
pub mod Laws
pub mod Took
pub mod Walk
