pub mod Cuts
pub mod Found
pub mod Ready
pub mod Stream
