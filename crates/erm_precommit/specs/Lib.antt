pub mod Pre
pub mod Settle
pub mod Skew
pub mod Took
