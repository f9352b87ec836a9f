pub mod Own
pub mod Owners
pub mod SafeStamps
